-- The laws of the page, and what a reader may want to know of it.
pub mod ProfileLaws
pub mod EntryLaws
pub mod Theorems
