-- The laws, and what the functions' proofs share.
pub mod ColumnLaws
pub mod DotLaws
pub mod DotPartsLaws
pub mod WovenLaws
