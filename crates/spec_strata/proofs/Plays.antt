-- What is proved here: how a stratum goes on in the play of its log.
pub mod Verdicts
pub mod Strata
pub mod Canonical
pub mod Pieces
pub mod LastParts
pub mod Staying
pub mod Turning
pub mod Coming
