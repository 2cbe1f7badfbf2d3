-- The laws of `phs`: first those that a reader looks for, then those that the proofs share.
pub mod Whole
pub mod Unique
pub mod Progress
pub mod Flow
pub mod Counts
pub mod Headers
pub mod Held
pub mod Putting
pub mod Answering
pub mod Stepping
pub mod Room
pub mod Onwards
pub mod Endings
