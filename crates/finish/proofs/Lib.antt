-- The laws, and what the functions' proofs share.
pub mod OutcomeLaws
pub mod Theorems
