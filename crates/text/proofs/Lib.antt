-- The laws of `text`.
pub mod Sets
pub mod Digits
pub mod Signs
pub mod Writing
pub mod Filling
pub mod Spelling
pub mod Numerals
pub mod Unique
