-- What the replayer answers makes of a sphere what the definitions make of it, and the sphere stands.
pub mod Judging
pub mod Moved
pub mod Limits
pub mod InStrata
