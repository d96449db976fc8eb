-- What the contracts of `exact_roots` cite.
pub mod Exact
