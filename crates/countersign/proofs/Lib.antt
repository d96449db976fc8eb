-- The laws, and what the functions' proofs share.
pub mod VerdictLaws
pub mod Carried
pub mod GridLaws
pub mod Theorems
