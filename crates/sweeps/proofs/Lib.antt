-- The laws, and what the functions' proofs share.
pub mod Alongside
pub mod Ceiling
pub mod Counts
pub mod SweepingLaws
pub mod Theorems
pub mod Values
