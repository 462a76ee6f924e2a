pub mod Following
pub mod InStrata
pub mod Promises
