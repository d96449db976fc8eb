-- What the contracts of `entropy_totals` cite.
pub mod Totals
