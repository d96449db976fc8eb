-- The laws, and what the functions' proofs share.
pub mod SquaringLaws
pub mod BandLaws
pub mod PowerLaws
pub mod Theorems
