-- The laws, and what the functions' proofs share.
pub mod PlannedDensityLaws
pub mod Theorems
