-- What the contracts of `qr_layout` cite.
pub mod Laying
