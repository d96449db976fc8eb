-- The laws, and what a reader wants to know.
pub mod RowLaws
pub mod Theorems
