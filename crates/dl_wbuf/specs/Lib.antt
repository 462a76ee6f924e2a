pub mod Buffers
pub mod Exact
pub mod Invariant
pub mod Tables
