pub mod Texts
pub mod Names
pub mod Numbers
pub mod Words
