-- The laws of the refusals, and what the functions' proofs share.
pub mod CheckLaws
