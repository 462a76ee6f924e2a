-- How a replayed sphere stands to its log: whose turn it is, and what is used of the log.
pub mod Order
pub mod Turns
pub mod Uses
pub mod Verdicts
