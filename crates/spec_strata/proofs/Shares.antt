-- What is proved here: that commits without conflict are each what their thread does alone.
pub mod Steps
pub mod Checking
pub mod Testing
pub mod Pairs
pub mod Touches
