-- The laws, and what the function's proof shares.
pub mod BackLaws
