-- Which words the lines of a source give, where those are, and what their file is loaded to.
pub mod Counting
pub mod Labels
pub mod Coding
pub mod Loading
