-- A matrix of c cells as planes: all real parts first and then all imaginary parts. Cell i is the numbers at i and c + i. Assumes nothing.
use Rattle.std.specs.Prelude.{List, ℕ, ◌+◌, Float, get_or, set}
use Rattle.std.specs.Float.{nan}
use Rattle.complex.specs.declared.Complex.{Complex}
use Rattle.complex.specs.Arithmetic.{complex_of}

unfoldable pub plane_at : List Float → ℕ → ℕ → Complex
plane_at xs c i = complex_of (get_or xs i nan) (get_or xs (c + i) nan)

unfoldable pub set_plane : List Float → ℕ → ℕ → Complex → List Float
set_plane xs c i z = set (set xs i z.re) (c + i) z.im
