-- What the contracts of `plain_sweeps` cite.
pub mod Trial
