-- The laws, and what the functions' proofs share.
pub mod TallyLaws
pub mod SheetLaws
pub mod PartLaws
pub mod Theorems
