-- The laws, and what the functions' proofs share.
pub mod DensityLaws
pub mod SquareLaws
pub mod Theorems
