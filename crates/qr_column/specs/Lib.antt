-- What the contracts of `qr_column` cite.
pub mod Dot
pub mod DotParts
pub mod Columns
pub mod Woven
