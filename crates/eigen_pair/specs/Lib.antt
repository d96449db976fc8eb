-- What the contracts of `eigen_pair` cite.
pub mod Decide
pub mod CellPlanes
pub mod Turn
