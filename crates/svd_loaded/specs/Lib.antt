-- What the contracts of `svd_loaded` cite.
pub mod Loaded
