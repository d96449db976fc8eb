-- The laws, and what the functions' proofs share.
pub mod LoadingLaws
pub mod NumbersLaws
