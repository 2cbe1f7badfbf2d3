-- The definitions of `header`.
pub mod Header
