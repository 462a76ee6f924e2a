mod Searching
pub mod Room
mod Going
