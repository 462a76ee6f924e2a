-- What is promised of one sphere.
pub mod Currency
pub mod PlayingBack
pub mod Sound
pub mod Standing
pub mod Notable
pub mod Judging
pub mod Logs
pub mod AsRecorded
pub mod Lasts
pub mod ConsoleBytes
pub mod Alike
pub mod Kept
