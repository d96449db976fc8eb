-- What the contracts of `density_block` cite.
pub mod Factor
pub mod FactorLoops
