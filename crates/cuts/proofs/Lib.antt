-- The laws, and what the functions' proofs share.
pub mod CutLaws
pub mod Theorems
