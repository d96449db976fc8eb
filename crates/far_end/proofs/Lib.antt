-- The laws, and what a reader may want to know.
pub mod FarEndLaws
pub mod Theorems
