-- The definitions of `sampling`: document 01, "Sampling and tags", with CR 2.
pub mod Sampling
pub mod Tags
