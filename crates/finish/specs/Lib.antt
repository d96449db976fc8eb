-- What the contracts of `finish` cite.
pub mod Finish
pub mod Outcome
