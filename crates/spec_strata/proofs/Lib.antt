pub mod Local
pub mod Shares
pub mod Plays
pub mod Logs
pub mod Images
pub mod Making
pub mod Sized
pub mod Standing
mod Examples
mod ReadingExamples
