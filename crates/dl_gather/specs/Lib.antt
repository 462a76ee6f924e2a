pub mod Forms
pub mod Inputs
pub mod Intervals
pub mod Names
pub mod Halts
pub mod Reads
pub mod Tasks
