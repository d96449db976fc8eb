-- What the contracts of `slab_cells` cite.
pub mod Cells
