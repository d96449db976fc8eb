-- The laws, and what the functions' proofs share.
pub mod AcrossLaws
pub mod AgreementLaws
pub mod Once
pub mod RenumberedLaws
pub mod SameDensity
pub mod SignsLaws
pub mod Theorems
