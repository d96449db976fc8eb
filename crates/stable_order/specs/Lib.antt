-- What the contracts of `stable_order` cite, and what they imply.
pub mod Places
pub mod Push
pub mod Order
pub mod Stable
