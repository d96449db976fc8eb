pub mod ChainLaws
pub mod NextLaws
pub mod WalkLaws
