pub mod Slices
pub mod Promise
