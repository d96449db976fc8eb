-- What the contracts of `components` cite.
pub mod Every
