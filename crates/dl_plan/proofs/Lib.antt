pub mod Counted
pub mod Documents
pub mod Each
pub mod Parted
pub mod Longest
pub mod Ordered
pub mod Texts
