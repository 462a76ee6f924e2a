-- A replay pays for its flights and events with what its play has left.
pub mod Runs
pub mod Affording
pub mod Plays
pub mod NextCommits
pub mod Logs
pub mod GoingOn
pub mod Commits
pub mod Serial
pub mod Moves
pub mod Standing
