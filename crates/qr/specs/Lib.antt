-- What the contracts of `qr` cite.
pub mod Call
