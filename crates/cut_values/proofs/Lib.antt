-- The laws, and what the functions' proofs share.
pub mod SchmidtLaws
pub mod PlainLaws
pub mod Few
pub mod Theorems
