pub mod Alike
pub mod Left
pub mod Strata
pub mod Paying
pub mod Next
pub mod Ending
mod Examples
