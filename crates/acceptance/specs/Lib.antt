-- The buyer's conditions, as statements.
pub mod ConditionA
pub mod Within
pub mod Runs
pub mod Salvage
pub mod Reached
pub mod ConditionB
pub mod Alone
pub mod ConditionC
pub mod ConditionD
pub mod DeadFeeder
pub mod Figures
pub mod Document
pub mod Tied
pub mod Rejected
