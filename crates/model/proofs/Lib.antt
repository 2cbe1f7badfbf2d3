-- The laws of `model`: first those that a reader looks for, then those that the functions' proofs share.
pub mod Unique
pub mod Quarter
pub mod Tables
pub mod Small
pub mod Same
pub mod Weights
pub mod Level
pub mod Summing
pub mod Stepping
pub mod Quadrant
pub mod NoPhase
pub mod Marks
pub mod Windows
pub mod Signed
