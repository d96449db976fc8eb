-- What the contracts of `svd_sweeps` cite, and what they imply.
pub mod Sweeping
pub mod Untouched
pub mod Marks
pub mod Late
