-- What the contract of `plan_values` cites.
pub mod PlannedValues
