-- The laws of `bits`.
pub mod Unique
pub mod Reading
pub mod Bytes
