-- What the contracts of `countersign_checks` cite.
pub mod Checks
