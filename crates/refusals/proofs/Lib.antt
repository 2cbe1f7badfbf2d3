-- The laws of `refusals`.
pub mod Numbers
pub mod Passing
