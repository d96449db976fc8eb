-- What the contracts of `countersign` cite.
pub mod Verdict
pub mod Reader
