-- What is proved here: that a log which says the same goes through the same strata.
pub mod Strata
pub mod Blocks
pub mod All
