-- What the contracts of `countersign_cells` cite.
pub mod Cells
