-- What the contracts of `lots` cite.
pub mod Lot
