-- What the contracts of `chain_step` cite.
pub mod Step
