-- What the contracts of `countersign_grid` cite.
pub mod Grid
