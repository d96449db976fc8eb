-- The laws, and what the functions' proofs share.
pub mod ListLaws
pub mod NamedLaws
pub mod OtherLaws
pub mod SpreadLaws
pub mod Theorems
