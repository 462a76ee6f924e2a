pub mod Along
pub mod Cutting
mod CuttingExamples
pub mod Later
pub mod LaterLists
pub mod LaterLog
pub mod LaterRaised
pub mod LaterThreads
pub mod Looked
mod PlayingExamples
pub mod PlayingOn
mod ReadingExamples
pub mod Told
pub mod Whole
