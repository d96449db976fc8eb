-- What the contracts of `profile_walk` cite.
pub mod Page
