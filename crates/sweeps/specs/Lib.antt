-- What the contracts of `sweeps` and of the two crates of sweeps cite.
pub mod Sweeping
