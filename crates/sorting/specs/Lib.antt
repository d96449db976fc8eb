-- What the downward sort is.
pub mod Sorted
