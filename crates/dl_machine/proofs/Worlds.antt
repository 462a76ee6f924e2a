-- Every world that a setup comes to is ready, counts its events, and has what the protocol promises.
pub mod First
pub mod Ready
pub mod InTurn
pub mod Begun
pub mod Events
pub mod Promised
pub mod Applied
