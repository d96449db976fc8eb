-- The laws, and what the functions' proofs share.
pub mod Finite
pub mod ListLaws
pub mod SortLaws
