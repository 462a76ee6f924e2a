pub mod Calls
pub mod Peeks
pub mod Wants
pub mod Outside
pub mod StepResults
pub mod Threads
pub mod States
pub mod InOrder
