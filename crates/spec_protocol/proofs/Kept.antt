-- What recordings in epochs keep is the end of what the points tell.
pub mod Cutting
pub mod Base
pub mod Tails
pub mod Due
pub mod Dropping
pub mod Holding
pub mod Showing
pub mod Standing
pub mod Stepping
pub mod Events
pub mod Roles
pub mod Begun
pub mod Sound
pub mod Worlds
pub mod Plays
pub mod One
