-- What `cut_naming` states.
pub mod Reordered
