-- A list's planes after one cell of them was set. Assumes nothing.
use mathlib.Core.Path.{◌≡◌, ap₂, ◌∙◌}
use mathlib.Core.List.{List}
use Prim.Native.Nat.{ℕ, ◌+◌, ◌<◌}
use native.Mathlib.Omega.{arith}
use lib.Ieee.{Float, nan}
use lib.ListN.{length, get_or, set, length-set}
use lib.Seq.{get_or-set_same, get_or-set_other}
use Rattle.complex.specs.declared.Complex.{Complex}
use Rattle.complex.specs.Arithmetic.{complex_of}
use Rattle.complex.specs.Planes.{plane_at, set_plane}

pub plane-same : (s : List Float) (c i : ℕ) (z : Complex) → i < c → c + i < length s → plane_at (set_plane s c i z) c i ≡ z
unfolding plane_at set_plane
plane-same s c i z h l =
    let a = set s i z.re in
    ap₂ complex_of
    (get_or-set_other a (c + i) i z.im nan (λ e. omega arith) ∙ get_or-set_same s i z.re nan (omega arith))
    (get_or-set_same a (c + i) z.im nan (omega (arith, length-set s i z.re)))

-- a number that stands in no part of the cell
number-other : (s : List Float) (c i k : ℕ) (z : Complex) → (k ≡ i → ⊥) → (k ≡ c + i → ⊥) → get_or (set (set s i z.re) (c + i) z.im) k nan ≡ get_or s k nan
number-other s c i k z g h = get_or-set_other (set s i z.re) (c + i) k z.im nan h ∙ get_or-set_other s i k z.re nan g

pub plane-other : (s : List Float) (c i j : ℕ) (z : Complex) → i < c → j < c → (j ≡ i → ⊥) → plane_at (set_plane s c i z) c j ≡ plane_at s c j
unfolding plane_at set_plane
plane-other s c i j z hi hj h =
    ap₂ complex_of (number-other s c i j z h (λ e. omega arith)) (number-other s c i (c + j) z (λ e. omega arith) (λ e. h (omega arith)))
