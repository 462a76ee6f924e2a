pub mod Overlays
pub mod Chunks
pub mod Playing
pub mod Walked
pub mod Keeping
pub mod Starts
pub mod Tails
pub mod Looks
