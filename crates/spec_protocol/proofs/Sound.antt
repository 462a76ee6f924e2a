-- Within the limits of a setup every world is sound: its words, threads, chunks, devices and logs.
pub mod Held
pub mod Changes
pub mod Chunks
pub mod Schedules
pub mod Notable
pub mod Between
