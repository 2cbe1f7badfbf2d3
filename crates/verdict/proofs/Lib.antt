-- The laws of `verdict`.
mod Bounds
pub mod Unique
