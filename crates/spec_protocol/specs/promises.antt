-- What is promised of the machine, and what holds of it.
pub mod Currency
pub mod Invariants
pub mod Promises
pub mod Replying
pub mod PlayingBack
pub mod LogsOfPoints
pub mod Pieces
pub mod Sound
pub mod Notable
pub mod Logs
pub mod Committers
pub mod Lasts
pub mod OneChunk
pub mod Youngers
pub mod ConsoleBytes
pub mod Alike
pub mod Kept
