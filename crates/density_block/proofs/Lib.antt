-- The laws, and what the functions' proofs share.
pub mod AnswerLaws
pub mod FactorLaws
pub mod Theorems
