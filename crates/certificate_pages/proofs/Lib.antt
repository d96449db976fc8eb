-- The laws, the theorems, and what the functions' proofs share.
pub mod BegunLaws
pub mod PagesLaws
pub mod Theorems
