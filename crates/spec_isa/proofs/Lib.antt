pub mod WordFields
pub mod Codes
pub mod Reading
pub mod RoundTrip
pub mod Denotation
pub mod BufferLaws
pub mod MemoryLaws
pub mod Examples
