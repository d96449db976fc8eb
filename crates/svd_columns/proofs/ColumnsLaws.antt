-- Laws of what `specs/Columns.antt` defines. Assumes nothing.
use mathlib.Core.Path.{◌≡◌, refl}
use mathlib.Core.Bool.{true}
use lib.Ieee.{of_bits, lt}
use Rattle.complex.specs.Zeros.{zero_float}
use Rattle.svd_columns.specs.Columns.{norm_clamp_min}

pub clamp-positive : lt zero_float norm_clamp_min ≡ true
unfolding norm_clamp_min lt of_bits
clamp-positive = refl
