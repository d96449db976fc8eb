-- What contracts cite.
pub mod Tables
