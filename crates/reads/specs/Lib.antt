-- The definition of `reads`.
pub mod Counts
