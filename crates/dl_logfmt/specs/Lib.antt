pub mod Answer
pub mod Feeding
pub mod Parsing
pub mod Streams
pub mod Writing
