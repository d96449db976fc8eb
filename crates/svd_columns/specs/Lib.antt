-- What the contracts of `svd_columns` cite.
pub mod Columns
