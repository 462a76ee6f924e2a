pub mod TrackedLists
mod Positions
