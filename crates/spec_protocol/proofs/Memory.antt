-- What memory shows while words fly: stores laid over it, what signatures cover, and what chunks see.
pub mod Running
pub mod Slots
pub mod Covering
pub mod Steps
pub mod Current
