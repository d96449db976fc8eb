-- What the contracts of `density_diagonal` cite.
pub mod Corners
pub mod LeftRows
pub mod CornerRows
