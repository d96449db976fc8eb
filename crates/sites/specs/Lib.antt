-- What the contracts of `sites` cite.
pub mod Calls
