-- What holds of every world that the machine comes to: the start has it, and each event keeps it.
pub mod Preserved
pub mod Held
pub mod Cores
pub mod Flights
pub mod Landing
pub mod Granting
pub mod Asks
pub mod Threads
pub mod Transfers
pub mod Schedules
pub mod OneChunk
pub mod Youngers
pub mod AsksGranted
pub mod Lasts
