-- The laws, and what the functions' proofs share.
pub mod Negated
pub mod Signs
pub mod Zeros
