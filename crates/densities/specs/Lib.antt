-- What the contracts of `densities` cite.
pub mod Square
pub mod Density
