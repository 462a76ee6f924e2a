-- Stores laid over a memory, and what runs see of it.
pub mod Laying
pub mod Running
