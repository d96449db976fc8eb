pub mod FromCut
pub mod Agreement
pub mod Signs
pub mod Across
pub mod Renumbered
