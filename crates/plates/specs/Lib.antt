-- What `plates` states.
pub mod Plates
pub mod Behind
