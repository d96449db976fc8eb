-- The laws, and what the functions' proofs share.
pub mod Comparing
pub mod OrderLaws
pub mod PlacesLaws
pub mod PushLaws
pub mod Theorems
