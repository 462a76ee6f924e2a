mod Examples
pub mod Filling
pub mod Keeping
pub mod Laying
pub mod Loaded
pub mod Sharing
pub mod Sweeping
