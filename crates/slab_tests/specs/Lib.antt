-- What the contracts of `slab_tests` cite.
pub mod Tests
