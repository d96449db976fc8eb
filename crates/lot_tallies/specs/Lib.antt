-- What the contracts of `lot_tallies` cite.
pub mod Tallies
