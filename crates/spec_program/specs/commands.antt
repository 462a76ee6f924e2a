-- The commands, a file each: what it reads, its outcome, and what 0 and 1 say of it. The headline says that of `run`.
pub mod Run
pub mod Inspect
pub mod Walk
pub mod Query
pub mod Interval
pub mod Tail
pub mod Make
pub mod Drill
pub mod Asm
pub mod Migrate
pub mod Strata
