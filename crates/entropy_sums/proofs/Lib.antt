-- The laws, and what the functions' proofs share.
pub mod SumLaws
pub mod FillLaws
pub mod Product
pub mod Theorems
