-- What the contracts of `eigen_sweeps` cite.
pub mod Sweeping
