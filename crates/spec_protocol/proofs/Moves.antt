-- What an event can come to; and what one move makes of its sphere, its threads and the devices, and what it leaves alone.
pub mod Elsewhere
pub mod Committers
pub mod AnyEvent
pub mod Quiet
