-- What the contracts of exported calls cite.
pub mod Told
