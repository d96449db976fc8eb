-- What the contracts of `svd_pair` cite, and a case that tells them from a slip.
pub mod Decisions
pub mod Turns
pub mod ZeroProducts
pub mod Plain
