pub mod Rows
pub mod Worlds
pub mod Commits
pub mod Steps
pub mod Signatures
