-- Small machines, event by event, and a setup within the limits.
pub mod Scenes
pub mod Recordings
pub mod TwoThreads
pub mod TwoChunks
pub mod Abandoned
pub mod Intervals
pub mod Limits
pub mod Epochs
