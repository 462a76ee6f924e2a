pub mod Dmas
pub mod Tracked
pub mod Inputs
