-- A chunk, a serial step or a DMA that is granted can commit, and leaves the world of the definitions.
pub mod Able
pub mod AsClosed
pub mod Granted
pub mod Moments
pub mod Diverging
pub mod Transfers
