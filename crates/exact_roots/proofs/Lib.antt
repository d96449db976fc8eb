-- What the functions' proofs share.
pub mod Even
pub mod Marks
pub mod All
pub mod Theorems
mod Examples
