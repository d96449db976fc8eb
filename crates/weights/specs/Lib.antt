-- What the contracts of `weights` cite.
pub mod Weights
pub mod WeightOutcome
