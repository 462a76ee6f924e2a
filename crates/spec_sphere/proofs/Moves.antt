-- What one move makes of its sphere, its threads and the devices, and what it leaves alone.
pub mod Joining
pub mod Granted
pub mod AnyMemory
pub mod Transfers
pub mod Threads
pub mod Spawning
pub mod Answering
pub mod AsRecorded
