-- What the contracts of `plan_changes` cite.
pub mod Changes
