pub mod Schedules
pub mod Ran
pub mod Tails
pub mod Taken
pub mod Logs
