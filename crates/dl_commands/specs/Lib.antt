pub mod Ended
pub mod Jobs
pub mod Performed
pub mod Products
pub mod Stops
pub mod Texts
pub mod Untold
pub mod Walks
