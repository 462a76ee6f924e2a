pub mod Joined
pub mod Causes
pub mod Spans
pub mod Rows
