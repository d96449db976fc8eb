-- What the contracts of `svd` cite.
pub mod Svd
