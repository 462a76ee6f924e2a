pub mod Showing
pub mod Stepping
pub mod SameSize
pub mod Again
