-- Every replay is its log's play, and does all of it; so all replays of the same log agree.
pub mod Keeping
pub mod Moved
pub mod All
pub mod Ending
pub mod Stopping
pub mod Agreeing
