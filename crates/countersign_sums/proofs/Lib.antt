-- The laws, and what the functions' proofs share.
pub mod Weights
pub mod Parts
pub mod Integers
pub mod Alikes
