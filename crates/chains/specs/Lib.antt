-- What the contracts and the theorems of `chains` cite.
pub mod Chains
pub mod ByHand
