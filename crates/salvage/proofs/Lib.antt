-- The laws of `salvage`.
pub mod Fates
pub mod Trims
pub mod Counts
pub mod Slots
pub mod Images
pub mod Turns
pub mod Unique
