-- Laws of what `specs/DotParts.antt` defines. Assumes nothing.
use mathlib.Core.Path.{◌≡◌, refl, ap, ap₂, ◌∙◌}
use mathlib.Core.Bool.{Bool, true, false, cond}
use mathlib.Core.List.{List}
use Prim.Native.Nat.{ℕ, ◌+◌, ◌*◌, ◌≤◌}
use native.Mathlib.Numerals.{add-one}
use lib.Ieee as Ieee
use lib.Ieee.{Float, binary64}
use Rattle.complex.specs.declared.Complex.{Complex}
use Rattle.complex.specs.Arithmetic.{sum_of}
use Rattle.complex.proofs.Loops.{stop}
use Rattle.complex.specs.Zeros.{zero_float}
use Rattle.qr_column.specs.declared.Parts.{Parts}
use Rattle.qr_column.specs.declared.Sums.{Sums}
use Rattle.qr_column.specs.Dot.{no_sums, add_quad, add_first, joined, dot_term, quads_to}
use Rattle.qr_column.specs.DotParts.{parts_of, part_of, parts, sums_of}

pub first_made : (s : Sums) (x : Complex) {z : Complex} → z ≡ sum_of s.sum0 x
    → record { sum0 = z; sum1 = s.sum1; sum2 = s.sum2; sum3 = s.sum3 } ≡ add_first s x
unfolding add_first
first_made s x e = ap (λ (y : Complex). record { sum0 = y; sum1 = s.sum1; sum2 = s.sum2; sum3 = s.sum3 }) e

pub joined_made : (s : Sums) {x y z : Complex} → x ≡ sum_of s.sum0 s.sum1 → y ≡ sum_of s.sum2 s.sum3 → z ≡ sum_of x y → z ≡ joined s
unfolding joined
joined_made s e f g = g ∙ ap₂ sum_of e f

-- the parts put together again
pub parts-joined : (s : Sums) {x y : Parts} {z : Sums} → x ≡ parts false s → y ≡ parts true s → z ≡ sums_of x y → z ≡ s
unfolding part_of parts sums_of
parts-joined s e f g = rw (e, f) at g

-- one term's part to each sum
abbrev pub add_parts : Parts → Float → Float → Float → Float → Parts
add_parts s x y z w =
    parts_of (Ieee.add binary64 s.sum0 x) (Ieee.add binary64 s.sum1 y) (Ieee.add binary64 s.sum2 z) (Ieee.add binary64 s.sum3 w)

module _ (b : Bool) (q : List Float) (o : ℕ) (v : List Float) where
  pub parts-end : {a : Parts} {k n : ℕ} → a ≡ parts b (quads_to q o v k) → k ≤ n → n ≤ k → a ≡ parts b (quads_to q o v n)
  parts-end = stop (λ k. parts b (quads_to q o v k))

  pub parts-none : parts_of zero_float zero_float zero_float zero_float ≡ parts b (quads_to q o v 0)
  unfolding part_of parts quads_to no_sums
  parts-none = pick b
    where
      pick : (t : Bool) → parts_of zero_float zero_float zero_float zero_float ≡ parts_of (cond t zero_float zero_float) (cond t zero_float zero_float) (cond t zero_float zero_float) (cond t zero_float zero_float)
      pick true = refl
      pick false = refl

  -- a part of a sum is the sum of the parts
  part-sum : (x y : Complex) → part_of b (sum_of x y) ≡ Ieee.add binary64 (part_of b x) (part_of b y)
  unfolding part_of sum_of
  part-sum x y = pick b
    where
      pick : (t : Bool) → cond t (Ieee.add binary64 x.im y.im) (Ieee.add binary64 x.re y.re) ≡ Ieee.add binary64 (cond t x.im x.re) (cond t y.im y.re)
      pick true = refl
      pick false = refl

  module _ (k : ℕ) {a : Parts} {x y z w : Complex} (f : x ≡ dot_term q o v (4 * k)) (g : y ≡ dot_term q o v (4 * k + 1)) (h : z ≡ dot_term q o v (4 * k + 2))
      (i : w ≡ dot_term q o v (4 * k + 3)) where
    pub parts-more : {c d m n : Float} → c ≡ part_of b x → d ≡ part_of b y → m ≡ part_of b z → n ≡ part_of b w → a ≡ parts b (quads_to q o v k)
        → add_parts a c d m n ≡ parts b (quads_to q o v (k + 1))
    unfolding parts quads_to add_quad
    parts-more c d m n e =
        rw (add-one, e, c, d, m, n, f, g, h, i, part-sum, part-sum, part-sum, part-sum)
