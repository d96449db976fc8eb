-- What the contracts of `countersign_scans` cite.
pub mod Scans
