-- What is proved here: that the strata which a log is cut into are strata, parallel, and leave what the log leaves.
pub mod Cutting
pub mod Counting
pub mod Playing
pub mod Ending
pub mod Commits
pub mod Sizes
pub mod Saying
pub mod Using
pub mod Given
pub mod Filling
pub mod Made
