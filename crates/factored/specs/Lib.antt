-- What the contracts of `factored` cite.
pub mod Factored
