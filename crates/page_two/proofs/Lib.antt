-- The laws, and what the function's proof shares.
pub mod PageTwoLaws
pub mod Theorems
