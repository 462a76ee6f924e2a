-- What must be believed: the machine, its events one at a time, and what they are compared with.
pub mod World
pub mod Stepping
pub mod Asking
pub mod Flying
pub mod Placing
pub mod Transferring
pub mod Machine
pub mod Finishing
pub mod Serial
pub mod Shown
pub mod Moves
pub mod Logged
pub mod Epochs
pub mod Kept
