-- What the contracts of `clean_numbers` cite.
pub mod Clean
pub mod Copies
