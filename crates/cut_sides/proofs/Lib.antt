-- The laws, and what the functions' proofs share.
pub mod SideLaws
pub mod Theorems
