-- The laws, and what the functions' proofs share.
pub mod GatheredLaws
pub mod PlaneChanges
pub mod RowSumsLaws
pub mod TwoRowsLaws
