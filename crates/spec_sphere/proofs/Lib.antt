pub mod Memory
pub mod Moves
pub mod Logs
pub mod PlayingBack
pub mod Points
pub mod Alike
pub mod Kept
pub mod Replays
pub mod Sound
mod Examples
