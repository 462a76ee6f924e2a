pub mod Tails
pub mod Shown
pub mod AreTails
pub mod Described
pub mod Room
pub mod Agreeing
pub mod Slices
