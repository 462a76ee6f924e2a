-- The parts of a text: the first place of a character, the operands between commas, and the lines.
pub mod Places
pub mod Operands
pub mod Lines
