pub mod sphere
pub mod promises
