-- What the contracts of `countersign_grams` cite.
pub mod Grams
