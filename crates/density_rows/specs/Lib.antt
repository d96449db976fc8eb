-- What the contracts of `density_rows` cite.
pub mod Gathered
pub mod TwoRows
pub mod RowSums
