pub mod Slicing
pub mod Joining
pub mod Counting
