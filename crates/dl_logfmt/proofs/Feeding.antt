-- A reader that was fed pieces of bytes holds what they say: a log so far, or a fault that stays.
pub mod Pieces
pub mod Faults
