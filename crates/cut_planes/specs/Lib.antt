-- What the contracts of `cut_planes` cite.
pub mod CutPlanes
