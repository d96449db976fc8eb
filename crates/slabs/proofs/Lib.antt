-- What the functions' proofs share, and what a reader asks of the calls.
pub mod SlabLaws
pub mod Sound
pub mod Calls
pub mod Undo
pub mod Theorems
