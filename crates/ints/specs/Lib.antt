-- The definitions of `ints`.
pub mod Whole
