-- What the contracts of `entropy_powers` cite.
pub mod Powers
