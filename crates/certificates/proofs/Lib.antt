-- The laws, and what the functions' proofs share.
pub mod AcceptedLaws
pub mod CertificateLaws
pub mod Theorems
