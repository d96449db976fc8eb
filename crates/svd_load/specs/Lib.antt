-- What the contracts of `svd_load` cite.
pub mod Loading
