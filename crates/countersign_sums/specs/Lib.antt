-- What the contracts of `countersign_sums` cite.
pub mod Wholes
pub mod Gaussians
pub mod Integers
