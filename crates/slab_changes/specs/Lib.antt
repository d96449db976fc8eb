-- What the contracts of `slab_changes` cite.
pub mod Changes
