-- Words put one after another come to the whole list.
pub mod Words
