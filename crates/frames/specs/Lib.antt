-- The definitions of `frames`, in the order of document 02, CR 4; `Inside` is no part of any promise.
pub mod Checksum
pub mod Fields
pub mod Tags
pub mod Reading
pub mod Inside
