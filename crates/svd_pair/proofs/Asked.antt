-- Whether a constant of a function asks for the plain way. The logic has such a constant as a number. Assumes nothing.
use mathlib.Core.Path.{◌≡◌}
use mathlib.Core.Bool.{true, false, not}
use Prim.Native.Nat.{ℕ}
use borrow.Author.Tests.{eq-eqb, ne_eqb}
use lib.Dec.{eqb}

pub asked : (n : ℕ) → (n ≡ 0 → ⊥) → not (eqb n 0) ≡ true
asked n h = rw (ne_eqb n 0 h)

pub unasked : (n : ℕ) → n ≡ 0 → not (eqb n 0) ≡ false
unasked n h = rw (eq-eqb n 0 h)
