-- What is proved here: that a commit looks at memory only by its footprint.
pub mod Footprints
pub mod Stopping
