mod Examples
mod NotingExamples
mod ReadingExamples
pub mod Sections
pub mod Sized
pub mod Stages
pub mod Threads
