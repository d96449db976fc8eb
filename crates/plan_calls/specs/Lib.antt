-- What the contracts of `plan_calls` cite.
pub mod Stored
