-- The definitions of `runs`; `Inside` is no part of any promise.
pub mod Runs
pub mod Feeds
pub mod Inside
