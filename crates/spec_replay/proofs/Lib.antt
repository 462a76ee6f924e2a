pub mod Intervals
pub mod Commits
pub mod Replays
pub mod Strata
mod Examples
mod StrataExamples
