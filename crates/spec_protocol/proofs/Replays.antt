-- How a replayed sphere stands to its log, after any events: the pieces of a commit.
pub mod Pieces
pub mod CountingPieces
