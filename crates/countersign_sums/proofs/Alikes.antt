-- What stands for the same: conjugates, products, sums and differences of it do, with weights that multiply or add.
-- Assumes nothing.
use mathlib.Core.Path.{◌≡◌, refl, sym, ap, ap₂, ◌∙◌}
use mathlib.Core.Bool.{◌&&◌}
use Prim.Native.Nat.{ℕ, ◌+◌, ◌*◌, ◌≤◌}
use native.Mathlib.Nat.{mul-le-mul, add-mul}
use native.Mathlib.Omega.{arith}
use lib.Dec.{leb}
use lib.IntN.{nat_abs}
use Rattle.countersign_sums.specs.declared.Gaussian.{Gaussian}
use Rattle.countersign_sums.specs.Gaussians.{zero_of, sum_of, difference_of, product_of, conjugate_of, both_within, heft}
use Rattle.countersign_sums.specs.Integers.{values, Pair, plus_pair, minus_pair, times_pair, conjugate_pair, Alike}
use Rattle.countersign_sums.proofs.Weights.{heft-sum, heft-difference, heft-product, heft-conjugate}
use Rattle.countersign_sums.proofs.Integers.{values-sum, values-difference, values-product, values-conjugate, apart-is}

pub alike_self : (a : Gaussian) (m : ℕ) → heft a ≤ m → Alike a a m
alike_self a m h = record { same = refl; light = h }

pub lighter : {a b : Gaussian} {m : ℕ} (n : ℕ) → Alike a b m → m ≤ n → Alike a b n
lighter n e h = record { same = e.same; light = omega (arith, e.light) }

pub alike-conjugate : {a b : Gaussian} {m : ℕ} → Alike a b m → Alike (conjugate_of a) (conjugate_of b) m
alike-conjugate {a} {b} e = record {
  same = values-conjugate a ∙ ap conjugate_pair e.same ∙ sym (values-conjugate b);
  light = omega (arith, heft-conjugate a, e.light);
}

module _ {a b c d : Gaussian} {m n : ℕ} (e : Alike a b m) (f : Alike c d n) where
  pub alike-product : Alike (product_of a c) (product_of b d) (m * n)
  alike-product = record {
    same = values-product a c ∙ ap₂ times_pair e.same f.same ∙ sym (values-product b d);
    light = omega (arith, heft-product a c, mul-le-mul {n₁ = heft a} {m₁ = heft c} {n₂ = m} {m₂ = n} e.light f.light);
  }

  pub alike-sum : Alike (sum_of a c) (sum_of b d) (m + n)
  alike-sum = record {
    same = values-sum a c ∙ ap₂ plus_pair e.same f.same ∙ sym (values-sum b d);
    light = omega (arith, heft-sum a c, e.light, f.light);
  }

  pub alike-difference : Alike (difference_of a c) (difference_of b d) (m + n)
  alike-difference = record {
    same = values-difference a c ∙ ap₂ minus_pair e.same f.same ∙ sym (values-difference b d);
    light = omega (arith, heft-difference a c, e.light, f.light);
  }

  -- no product and no sum of them wraps where the weights do not
  pub product-light : heft a * heft c ≤ m * n
  product-light = mul-le-mul {n₁ = heft a} {m₁ = heft c} {n₂ = m} {m₂ = n} e.light f.light

  pub sum-light : heft a + heft c ≤ m + n
  sum-light = omega (arith, e.light, f.light)

-- ---- a sum of terms of at most m each: none, and one more

nothing : heft zero_of ≡ 0
unfolding heft
nothing = refl

pub alike-none : (m : ℕ) → Alike zero_of zero_of (0 * m)
alike-none m = alike_self zero_of (0 * m) (omega (arith, nothing))

pub alike-more : (t m : ℕ) {a b s f r : Gaussian} → Alike a s (t * m) → Alike b f m → r ≡ sum_of a b → Alike r (sum_of s f) ((t + 1) * m)
alike-more t m e f g = rw g (lighter ((t + 1) * m) (alike-sum e f) (omega (arith, add-mul t 1 m)))

-- the limits hang on what a number stands for
pub within-alike : (t : ℕ) {a b : Gaussian} {m : ℕ} → Alike a b m → both_within a t ≡ both_within b t
unfolding both_within values
within-alike t {a} {b} e =
    ap₂ (λ (x y : ℕ). leb x t && leb y t)
    (apart-is a.re ∙ ap (λ (z : Pair). nat_abs z.0) e.same ∙ sym (apart-is b.re))
    (apart-is a.im ∙ ap (λ (z : Pair). nat_abs z.1) e.same ∙ sym (apart-is b.im))
