-- The definitions of `lister`; `Inside` is no part of any promise.
pub mod Listing
pub mod Inside
