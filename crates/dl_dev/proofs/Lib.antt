pub mod Filling
pub mod Copying
