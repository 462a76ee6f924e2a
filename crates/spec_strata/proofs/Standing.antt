-- How far a replay has come in a stratum: numbers of commits, their places, and the threads that have them.
pub mod Counts
pub mod Places
pub mod Living
