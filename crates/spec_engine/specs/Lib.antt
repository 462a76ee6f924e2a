pub mod Signatures
pub mod Flights
pub mod Choices
pub mod Chunks
pub mod Asking
pub mod Laws
pub mod Closing
pub mod Flying
