pub mod Agreement
pub mod Lanes
