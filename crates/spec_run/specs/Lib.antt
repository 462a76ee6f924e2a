pub mod Runs
pub mod Tails
pub mod Texts
pub mod Promise
