-- The laws of `ints`.
pub mod Ring
pub mod Size
pub mod Sum
pub mod Floor
pub mod Signed
pub mod Every
pub mod Cases
