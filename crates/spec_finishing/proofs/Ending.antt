-- Finishing ends, within a bound, and then every replay has done its whole play.
pub mod KindsKept
pub mod Knowing
pub mod Bounding
pub mod All
pub mod Function
pub mod Played
pub mod Short
pub mod ShortRuns
