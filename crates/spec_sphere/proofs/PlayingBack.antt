-- The play of a recorded log does as the recording did: move by move, in one sphere.
pub mod Following
pub mod Commits
pub mod Verdicts
pub mod Transfers
pub mod Moves
pub mod All
pub mod Sizes
