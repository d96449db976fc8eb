-- What the contracts of `profile_checks` cite.
pub mod Checks
