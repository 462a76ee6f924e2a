pub mod Banks
pub mod Unions
pub mod Words
