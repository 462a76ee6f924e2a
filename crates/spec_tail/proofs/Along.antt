-- A tail's play goes along with the play of the log that it is the last part of.
pub mod Recounted
pub mod Steps
pub mod Tallies
pub mod Reached
pub mod Lookups
pub mod Rests
pub mod Raised
pub mod Fitting
