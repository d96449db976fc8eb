-- The laws, and what the functions' proofs share.
pub mod Decided
pub mod Planes
pub mod Theorems
pub mod TrialLaws
