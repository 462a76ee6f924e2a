-- A small sphere that is asked for one thread more than a log of version 1 can have.
pub mod Spawning
