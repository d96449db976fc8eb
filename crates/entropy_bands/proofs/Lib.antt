-- The laws, and what the functions' proofs share.
pub mod BandsLaws
pub mod EntropyLaws
pub mod Theorems
