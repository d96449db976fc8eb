-- What the contracts of `density_entries` cite.
pub mod Squares
pub mod Mirrored
pub mod Entries
pub mod Blocks
pub mod Pairs
pub mod Filled
