-- The laws, and what the functions' proofs share.
pub mod PlanLaws
pub mod Theorems
