-- The definitions of `model`, a file for each section of document 01; `Bounds` is how large the numbers are.
pub mod Filter
pub mod Angle
pub mod Report
pub mod Bounds
