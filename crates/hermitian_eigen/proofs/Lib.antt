-- The laws, and what the functions' proofs share.
pub mod HermitianLaws
pub mod ShiftedLaws
pub mod StepsLaws
pub mod Theorems
