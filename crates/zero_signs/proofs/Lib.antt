-- The laws: of floats, and of complex numbers.
pub mod Unsigned
pub mod Bare
pub mod Cells
