-- The laws, and what the functions' proofs share.
pub mod BlocksLaws
pub mod CellChanges
pub mod EntryLaws
pub mod FilledLaws
pub mod MirroredLaws
pub mod PairsLaws
