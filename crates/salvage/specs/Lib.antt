-- The definitions of `salvage`.
pub mod Slots
pub mod Image
