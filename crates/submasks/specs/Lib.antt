pub mod Submasks
