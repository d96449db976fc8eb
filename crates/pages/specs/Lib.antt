-- What the contracts of `pages` cite.
pub mod Agree
pub mod Blocks
