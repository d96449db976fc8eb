-- What the contracts of `profile_cut` cite.
pub mod Cut
