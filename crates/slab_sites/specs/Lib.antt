-- What the contracts of `slab_sites` cite.
pub mod Every
pub mod Sites
