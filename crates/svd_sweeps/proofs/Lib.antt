-- The laws, and what the functions' proofs share.
pub mod MarksLaws
pub mod LateLaws
pub mod SweepingLaws
pub mod UntouchedLaws
