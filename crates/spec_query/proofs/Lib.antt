pub mod Apart
pub mod Told
pub mod Always
