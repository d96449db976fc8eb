-- The laws, and what the functions' proofs share.
pub mod ChangeLaws
pub mod Theorems
