-- Laws of what `specs/Planes.antt` defines. Assumes nothing.
use mathlib.Core.Path.{◌≡◌}
use mathlib.Core.List.{List}
use Prim.Native.Nat.{ℕ}
use lib.Ieee.{Float}
use lib.ListN.{length, length-set}
use Rattle.complex.specs.declared.Complex.{Complex}
use Rattle.complex.specs.Planes.{set_plane}

pub length-set_plane : (xs : List Float) (c i : ℕ) (z : Complex) → length (set_plane xs c i z) ≡ length xs
unfolding set_plane
length-set_plane xs c i z = simp length-set
