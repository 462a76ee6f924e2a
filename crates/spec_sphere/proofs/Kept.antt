-- What recordings in epochs keep is the end of what the points tell.
pub mod Cutting
pub mod Shortening
pub mod Masked
