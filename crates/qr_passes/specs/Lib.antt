-- What the contracts of `qr_passes` cite.
pub mod Room
pub mod GramSchmidt
