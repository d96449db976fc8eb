-- What the contracts of `scaled` cite.
pub mod Each
pub mod Scale
pub mod Eight
