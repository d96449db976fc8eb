-- The laws, and what the functions' proofs share.
pub mod CellPlanesLaws
pub mod DecideLaws
pub mod TurnLaws
