-- What the contracts of `chain_checks` cite.
pub mod Checks
