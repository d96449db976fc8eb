-- What the contracts of `chain_load` cite.
pub mod Carried
