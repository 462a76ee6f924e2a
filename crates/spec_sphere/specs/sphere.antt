-- What must be believed of one sphere: its role, its commits, its log and its epochs.
pub mod Spheres
pub mod Commits
pub mod Setups
pub mod Moves
pub mod Logged
pub mod Epochs
pub mod Kept
