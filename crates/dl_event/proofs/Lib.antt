mod Alike
mod Examples
mod Reading
mod Repeats
mod Short
mod Words
