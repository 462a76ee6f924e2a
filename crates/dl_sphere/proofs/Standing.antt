-- Every sphere stands: at its start, and after each of its moves.
pub mod Start
pub mod Moves
pub mod Sizes
pub mod Drained
