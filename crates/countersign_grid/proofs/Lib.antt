-- The laws, and what the functions' proofs share.
pub mod Units
pub mod Sizes
pub mod Bounds
