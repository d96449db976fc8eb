-- The laws of the page of a chain's cuts.
pub mod PageLaws
pub mod PutLaws
pub mod WalkLaws
