-- The laws that the function's proof shares.
pub mod SumsLaws
