-- What the contracts of `cutfile_result` cite.
pub mod Result
