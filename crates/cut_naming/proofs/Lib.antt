-- The laws, and what the functions' proofs share.
pub mod ReorderedLaws
pub mod Others
pub mod Theorems
