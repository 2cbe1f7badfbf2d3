-- The definitions of `bits`.
pub mod Bits
