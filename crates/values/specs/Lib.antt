-- What the contracts of `values` cite.
pub mod Lists
pub mod Sort
