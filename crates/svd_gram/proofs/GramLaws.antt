-- Laws of what `specs/Gram.antt` defines. Assumes nothing.
use mathlib.Core.Path.{◌≡◌, refl}
use mathlib.Core.List.{List}
use Prim.Native.Nat.{ℕ, ◌+◌}
use native.Mathlib.Numerals.{add-one}
use lib.Ieee.{Float}
use Rattle.complex.specs.Planes.{plane_at}
use Rattle.svd_gram.specs.Gram.{no_sums, one_row, gram_to}

pub gram_to-none : (xs : List Float) (c a b : ℕ) → gram_to xs c a b 0 ≡ no_sums
unfolding gram_to
gram_to-none xs c a b = refl

pub gram_to-more : (xs : List Float) (c a b k : ℕ) → gram_to xs c a b (k + 1) ≡ one_row (gram_to xs c a b k) (plane_at xs c (a + k)) (plane_at xs c (b + k))
unfolding gram_to
gram_to-more xs c a b k = rw add-one
