pub mod Counts
pub mod ThreadSizes
pub mod Lists
pub mod Logged
pub mod Since
pub mod Whole
pub mod Strata
