-- What the proofs share, and what a reader asks of the run.
pub mod TestLaws
pub mod Theorems
