pub mod Line
pub mod Reading
pub mod Repeated
pub mod Script
pub mod Seeded
