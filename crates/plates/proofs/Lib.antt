-- The laws, and what a reader may want to know.
pub mod PlatesLaws
pub mod Theorems
