-- What the contracts of `entropy_bands` cite.
pub mod Bands
