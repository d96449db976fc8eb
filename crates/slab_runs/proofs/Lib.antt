pub mod RunLaws
pub mod Meaning
pub mod Theorems
