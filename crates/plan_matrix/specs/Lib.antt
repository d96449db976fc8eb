-- What the contract of `plan_matrix` cites.
pub mod PlannedCut
