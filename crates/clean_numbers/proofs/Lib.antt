-- The laws, and what the functions' proofs share.
pub mod CleanLaws
