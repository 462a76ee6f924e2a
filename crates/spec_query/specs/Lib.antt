pub mod Stores
pub mod Queries
pub mod Texts
pub mod Promise
