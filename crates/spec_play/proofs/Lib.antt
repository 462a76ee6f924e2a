pub mod Programs
pub mod Keeping
pub mod Migrating
pub mod Positions
pub mod Going
pub mod Walking
pub mod Lasts
mod Examples
mod Records
pub mod Resuming
pub mod Within
pub mod Threads
pub mod Bounds
pub mod Local
