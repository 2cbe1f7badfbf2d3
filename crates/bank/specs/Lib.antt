-- The definitions of `bank`; `Inside` is no part of any promise.
pub mod Slot
pub mod Damage
pub mod Calls
pub mod Inside
