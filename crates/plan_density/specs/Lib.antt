-- What the contracts of `plan_density` cite.
pub mod PlannedDensity
