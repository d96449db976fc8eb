-- The laws of one cut of a chain.
pub mod CutLaws
