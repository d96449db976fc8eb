-- What the contracts of `complex` cite.
pub mod Arithmetic
pub mod Cells
pub mod Planes
pub mod Zeros
pub mod Squares
