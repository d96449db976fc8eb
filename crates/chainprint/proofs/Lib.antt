pub mod PrintoutLaws
