-- One commit of a replayed sphere, whole or in pieces, is its play's next.
pub mod Judging
pub mod Standing
pub mod Done
pub mod Pieces
pub mod LastParts
