-- The laws of `reads`.
pub mod Brings
pub mod Unique
