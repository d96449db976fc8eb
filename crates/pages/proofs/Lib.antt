-- The laws, and what the functions' proofs share.
pub mod AgreeLaws
pub mod BlocksLaws
pub mod Both
pub mod Theorems
