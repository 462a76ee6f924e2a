pub mod Laid
pub mod Paged
pub mod Joined
