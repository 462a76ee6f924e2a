-- A replay in strata follows the play of their log.
pub mod Places
pub mod Heads
pub mod Coming
pub mod Going
pub mod Chunks
pub mod Steps
pub mod Moved
pub mod All
pub mod Stopping
pub mod Ends
