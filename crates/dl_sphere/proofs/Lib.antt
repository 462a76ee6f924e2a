pub mod Replays
pub mod Standing
pub mod Live
pub mod Lists
pub mod Begins
