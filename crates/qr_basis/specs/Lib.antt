-- What the contracts of `qr_basis` cite.
pub mod Matrix
