pub mod Stores
pub mod Seeing
pub mod Engines
pub mod Pairs
