-- The laws of `lister`: first those that a reader looks for, then those that the proofs share.
pub mod Says
pub mod Unique
pub mod Told
pub mod Given
pub mod Counted
