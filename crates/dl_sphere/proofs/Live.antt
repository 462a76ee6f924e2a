-- A plain or recorded sphere takes of the devices, and moves, as the definitions say.
pub mod Devices
pub mod Moved
