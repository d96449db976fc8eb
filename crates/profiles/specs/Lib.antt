-- What the contracts of `profiles` cite.
pub mod Profile
