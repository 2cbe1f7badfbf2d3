-- The definitions of `verdict`, in the order of document 01, "The verdict"; `Inside` is no part of any promise.
pub mod Errors
pub mod Limits
pub mod Judging
pub mod Inside
