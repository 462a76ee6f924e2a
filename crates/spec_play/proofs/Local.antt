-- A run looks at memory only by the words that it fetches and loads.
pub mod Joining
pub mod Laying
pub mod Running
