mod Examples
pub mod Marking
pub mod Searches
pub mod Choosing
pub mod Stepping
pub mod Covering
