-- The laws, and what the functions' proofs share.
pub mod CellLaws
pub mod ConjugateProduct
pub mod Loops
pub mod PlanesLaws
pub mod SquaresLaws
pub mod Theorems
pub mod ZerosLaws
