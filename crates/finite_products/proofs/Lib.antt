-- The theorems, and their laws.
pub mod WithinLaws
pub mod Allowed
pub mod Theorems
