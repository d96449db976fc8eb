-- What the contracts of `plan_lists` cite.
pub mod Padded
