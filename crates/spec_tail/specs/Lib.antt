pub mod Bytes
pub mod Cutting
pub mod Later
pub mod Playing
pub mod Direct
pub mod Promise
pub mod Reading
pub mod Tails
