-- What the contracts of `entropy_weights` cite.
pub mod Weights
