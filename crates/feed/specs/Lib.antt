-- The definitions of `feed`: `History` is condition B's rule; `Places`, `Kept` and `Ring` are the feed as the bank keeps it; `Inside` is no part of any promise.
pub mod Answers
pub mod History
pub mod Places
pub mod Kept
pub mod Ring
pub mod Inside
