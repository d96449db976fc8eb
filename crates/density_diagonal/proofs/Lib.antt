-- The laws, and what the functions' proofs share.
pub mod CornerRowsLaws
pub mod CornersLaws
pub mod LeftRowsLaws
pub mod OwnProduct
