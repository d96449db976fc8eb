-- The theorems, and what the functions' proofs share.
pub mod ResultLaws
pub mod Few
pub mod Theorems
