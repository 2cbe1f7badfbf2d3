-- The laws of `sampling`.
pub mod Unique
pub mod Samplings
pub mod Rates
