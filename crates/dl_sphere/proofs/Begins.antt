-- An epoch begins in a sphere as the definitions say.
pub mod Laid
pub mod Due
pub mod Fresh
pub mod Begun
