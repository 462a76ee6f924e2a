pub mod LaneLaws
pub mod Lasts
pub mod Opens
pub mod Places
pub mod Positions
pub mod Probes
pub mod Puts
pub mod Sifting
