-- What is proved here: that strata on an image go as their log's play does.
pub mod Canonical
pub mod Commits
pub mod Following
pub mod Going
pub mod Ending
pub mod Answers
pub mod Found
