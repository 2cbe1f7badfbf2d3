-- The laws of `frames`.
mod Linear
mod Division
pub mod OneByte
pub mod Residue
pub mod Apart
pub mod Unique
