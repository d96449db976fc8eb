-- What the contracts of `matrix_sizes` cite.
pub mod Sizes
