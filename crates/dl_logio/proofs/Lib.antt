pub mod Appending
pub mod Lengths
pub mod Pieces
