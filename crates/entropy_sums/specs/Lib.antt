-- What the contracts of `entropy_sums` cite.
pub mod Sums
