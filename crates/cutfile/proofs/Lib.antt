-- The laws, and what the functions' proofs share.
pub mod BytesLaws
pub mod Cases
pub mod LayoutLaws
pub mod Longer
pub mod Theorems
