-- What the contracts of `svd_gram` cite.
pub mod Gram
pub mod Terms
