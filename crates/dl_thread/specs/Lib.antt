pub mod Sight
pub mod Answer
pub mod Performing
