pub mod Nothing
mod Past
mod ShortLists
mod SizeLookups
