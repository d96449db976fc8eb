-- What the contracts of `cut_values` cite.
pub mod Schmidt
