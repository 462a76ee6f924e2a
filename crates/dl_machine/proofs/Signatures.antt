-- Words are marked one after another.
pub mod OneByOne
