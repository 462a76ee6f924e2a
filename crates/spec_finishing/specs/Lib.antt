pub mod Work
pub mod Rank
pub mod Ending
pub mod Finished
pub mod Function
