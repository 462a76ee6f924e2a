pub mod Places
pub use Rattle.spec_isa.specs.Encoding
pub use Rattle.spec_isa.specs.Denoted
