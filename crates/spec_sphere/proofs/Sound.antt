-- What each move leaves of a sound sphere is sound: its words, threads, devices and logs.
pub mod Words
pub mod Threads
pub mod Devices
pub mod Limits
pub mod Commits
pub mod Moves
pub mod Transfers
pub mod Plays
pub mod Between
pub mod Instructions
