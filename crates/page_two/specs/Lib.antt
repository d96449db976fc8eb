pub mod PageTwo
