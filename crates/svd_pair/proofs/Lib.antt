-- The laws, and what the functions' proofs share.
pub mod DecisionsLaws
pub mod SignedZeros
pub mod Signs
pub mod TurnsLaws
pub mod ZeroProductsLaws
pub mod Theorems
pub mod Asked
