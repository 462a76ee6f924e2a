pub mod Given
pub mod Pipes
