-- The play of a recorded log does as the recording did.
pub mod Moves
pub mod All
pub mod WholeLogs
