-- What the contracts of `hermitian_eigen` cite.
pub mod Shifted
pub mod Hermitian
pub mod Steps
