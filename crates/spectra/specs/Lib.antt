-- What the contracts of `spectra` cite.
pub mod Eigenvalues
pub mod Outcomes
pub mod Density
