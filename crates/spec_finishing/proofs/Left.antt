-- What is left to do, as a number, and that no event increases it.
pub mod Pricing
pub mod Slots
pub mod Flying
pub mod AnyEvent
pub mod AnyAsk
pub mod Rows
pub mod Spending
