-- What the theorems say.
pub mod Within
