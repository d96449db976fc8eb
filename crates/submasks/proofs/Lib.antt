-- The laws, and what the functions' proofs share.
pub mod BitLaws
pub mod SubmaskLaws
pub mod Visits
