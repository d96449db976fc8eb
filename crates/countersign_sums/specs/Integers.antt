-- What a whole number with a sign stands for among the integers, and complex integers. Definitions only.
use Rattle.std.specs.Prelude.{◌≡◌, ℕ, zero, suc, ◌≤◌, ℤ, pos, neg_ℤ, ◌+ℤ◌, ◌-ℤ◌, ◌*ℤ◌}
use Rattle.std.proofs.Math.IntN.{sub_ℕ}
use Rattle.countersign_sums.specs.declared.Whole.{Whole}
use Rattle.countersign_sums.specs.declared.Gaussian.{Gaussian}
use Rattle.countersign_sums.specs.Gaussians.{heft}

-- over less under
unfoldable pub value : Whole → ℤ
value a = sub_ℕ a.over a.under

-- a complex integer: its real part and its imaginary part
abbrev pub Pair : Type 0
Pair = ℤ × ℤ

abbrev pub plus_pair : Pair → Pair → Pair
plus_pair a b = (a.0 +ℤ b.0, a.1 +ℤ b.1)

abbrev pub minus_pair : Pair → Pair → Pair
minus_pair a b = (a.0 -ℤ b.0, a.1 -ℤ b.1)

abbrev pub times_pair : Pair → Pair → Pair
times_pair a b = (a.0 *ℤ b.0 -ℤ a.1 *ℤ b.1, a.0 *ℤ b.1 +ℤ a.1 *ℤ b.0)

abbrev pub scale_pair : Pair → ℤ → Pair
scale_pair a w = (a.0 *ℤ w, a.1 *ℤ w)

abbrev pub conjugate_pair : Pair → Pair
conjugate_pair a = (a.0, neg_ℤ a.1)

-- the complex integer that a complex number stands for
unfoldable pub values : Gaussian → Pair
values a = (value a.re, value a.im)

-- a stands for what b stands for, and weighs at most so much
pub record Alike (a b : Gaussian) (most : ℕ) : Type 0 where
  pub same : values a ≡ values b
  pub light : heft a ≤ most

-- the sum of the first n
unfoldable pub total : (ℕ → Pair) → ℕ → Pair
total f zero = (pos 0, pos 0)
total f (suc n) = plus_pair (total f n) (f n)
