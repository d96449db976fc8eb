-- What the contracts of `plans` cite.
pub mod Plans
