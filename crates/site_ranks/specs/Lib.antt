-- What the contracts of `site_ranks` cite.
pub mod Ranks
