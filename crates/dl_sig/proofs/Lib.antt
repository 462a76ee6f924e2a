pub mod Sets
pub mod Bits
pub mod Flagged
pub mod Lanes
pub mod Merged
