-- The laws, and what the functions' proofs share.
pub mod Pages
pub mod RecountLaws
pub mod Theorems
