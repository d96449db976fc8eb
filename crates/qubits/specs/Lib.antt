pub mod Lists
pub mod Spread
