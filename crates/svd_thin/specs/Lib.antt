-- What the contracts of `svd_thin` cite.
pub mod Thin
