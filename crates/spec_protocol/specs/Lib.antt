pub mod machine
pub mod promises
