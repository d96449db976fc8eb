-- What the contracts of `cut_marks` cite.
pub mod Marks
