-- What the functions' proofs share, and the laws of the cells.
pub mod CellLaws
pub mod PasteLaws
pub mod Theorems
