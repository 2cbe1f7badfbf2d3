-- The laws of `header`.
pub mod Unique
pub mod Order
pub mod Meant
