pub mod Drawn
pub mod Over
mod Words
mod Taking
