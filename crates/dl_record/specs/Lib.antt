pub mod Epochs
pub mod Recording
