-- What the theorems of `plan_refusals` state.
pub mod Rows
