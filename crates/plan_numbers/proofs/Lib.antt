-- What a reader wants to know.
pub mod Theorems
