-- A number that is cut beyond every range serves as the number itself.
pub mod Digits
pub mod Ranges
pub mod Statements
