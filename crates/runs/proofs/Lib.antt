-- The laws of `runs`.
pub mod Centres
pub mod Windows
pub mod Feeds
pub mod Unique
