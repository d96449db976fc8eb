pub mod ChainsLaws
pub mod BondLaws
pub mod OutcomeLaws
pub mod HandLaws
pub mod Theorems
