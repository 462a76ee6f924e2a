pub mod Images
pub mod Fields
pub mod Segments
pub mod Rules
pub mod Loading
pub mod Causes
