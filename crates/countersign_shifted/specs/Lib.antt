-- What the contracts of `countersign_shifted` cite.
pub mod Shifted
