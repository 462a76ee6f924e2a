pub mod Numbers
pub mod Actor
pub mod ReplyName
pub mod Counts
