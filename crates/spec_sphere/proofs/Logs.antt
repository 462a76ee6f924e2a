-- What a recording keeps: how its entries are put in place and found again, and how it grows.
pub mod Inserting
pub mod Lookups
pub mod Growing
pub mod Coming
pub mod Entries
pub mod Fresh
pub mod SeenAlike
