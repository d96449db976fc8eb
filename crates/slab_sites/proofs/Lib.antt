-- What the functions' proofs share, and the laws of the index.
pub mod EveryLaws
pub mod SiteLaws
pub mod IndexLaws
