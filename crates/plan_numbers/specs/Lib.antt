-- What the contracts of `plan_numbers` cite.
pub mod Numbers
