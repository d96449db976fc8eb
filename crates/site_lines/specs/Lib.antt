-- What the contracts of `site_lines` cite.
pub mod Sources
