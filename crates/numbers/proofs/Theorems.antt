-- What a reader may want to know of this crate's definitions and calls. Assumes nothing.
use mathlib.Core.Path.{◌≡◌, sym, ap, ◌∙◌}
use mathlib.Core.Logic.{◌⊎◌, inl, inr}
use mathlib.Core.Bool.{true, false}
use Prim.Native.Nat.{ℕ, zero, suc, ◌+◌, ◌*◌, ◌≤◌, ◌<◌}
use native.Mathlib.Nat.{add_comm, lt_of_not-le, eq-or-lt_of_le}
use native.Mathlib.Decide.{dec_le}
use native.Mathlib.Omega.{arith}
use lib.Ieee.{Float, nan, inf, fin}
use Rattle.numbers.specs.Root.{units_of, squared, Nearest, Sqrt}
use Rattle.numbers.proofs.Unique.{same_size}

-- ---- of two nearest floats neither is larger
not-less : (x r s : Float) → Nearest x r → Nearest x s → units_of r < units_of s → ⊥
not-less x r s p q h =
    let a : 4 * squared x < (units_of r + units_of s) * (units_of r + units_of s) = p.above s q.float h in
    let b : (units_of s + units_of r) * (units_of s + units_of r) < 4 * squared x = q.below r p.float h in
    let c : (units_of s + units_of r) * (units_of s + units_of r) ≡ (units_of r + units_of s) * (units_of r + units_of s) = ap (λ (n : ℕ). n * n) (add_comm (units_of s) (units_of r)) in
    omega arith

nearest-unique : (x r s : Float) → Nearest x r → Nearest x s → r ≡ s
nearest-unique x r s p q = go (dec_le (units_of r) (units_of s))
  where
    at_most : (units_of r ≡ units_of s) ⊎ (units_of r < units_of s) → r ≡ s
    at_most (inl e) = same_size r s p.float q.float e
    at_most (inr l) = absurd (not-less x r s p q l)

    go : Dec (units_of r ≤ units_of s) → r ≡ s
    go (yes h) = at_most (eq-or-lt_of_le h)
    go (no f) = absurd (not-less x s r q p (lt_of_not-le f))

-- Only one float meets the statement of the square root.
pub unique : (x r s : Float) → Sqrt x r → Sqrt x s → r ≡ s
unique nan r s p q = p ∙ sym q
unique (inf true) r s p q = p ∙ sym q
unique (inf false) r s p q = p ∙ sym q
unique (fin true zero e) r s p q = p ∙ sym q
unique (fin false zero e) r s p q = p ∙ sym q
unique (fin true (suc m) e) r s p q = p ∙ sym q
unique (fin false (suc m) e) r s p q = nearest-unique (fin false (suc m) e) r s p q
