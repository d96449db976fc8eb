-- The theorems, and what the functions' proofs share.
pub mod ToldLaws
pub mod Theorems
