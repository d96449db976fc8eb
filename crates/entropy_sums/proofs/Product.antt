-- Each weight left is a part of the whole, and the bands of all of them together. Assumes nothing.
use mathlib.Core.Path.{◌≡◌, refl, sym, ap, ap₂, ◌∙◌}
use mathlib.Core.List.{List, [], ◌∷◌}
use Prim.Native.Nat.{ℕ, zero, suc, ◌+◌, ◌*◌, ◌^◌, ◌≤◌, ◌<◌}
use native.Mathlib.Nat.{mul-le-mul, mul_comm, mul_assoc, mul_left_comm, mul-add, le_trans, le_of_eq, pow-le-pow_left, pow-zero}
use native.Mathlib.Omega.{arith}
use lib.Ieee.{Float}
use lib.ListN.{length, get_or}
use lib.Pow.{pow-add}
use Rattle.entropy_weights.specs.Weights.{weight_of}
use Rattle.entropy_powers.specs.Powers.{lo_of, hi_of}
use Rattle.entropy_powers.proofs.PowerLaws.{mul-pow, pow-pow}
use Rattle.entropy_powers.proofs.Theorems.{band-lower, band-upper}
use Rattle.entropy_sums.specs.Sums.{kept_weight, weights_left, weight_sum, bands_of, low_sum, high_sum, weight_powers}

-- ---- parts of a whole

abbrev pub Parts : ℕ → List ℕ → Type 0
Parts all [] = Unit {0}
Parts all (w ∷ l) = (0 < w) × (w ≤ all) × Parts all l

parts-kept : (all w : ℕ) (l : List ℕ) → (weight_sum l ≤ all → Parts all l) → weight_sum (kept_weight w l) ≤ all → Parts all (kept_weight w l)
unfolding kept_weight weight_sum
parts-kept all zero l f h = f h
parts-kept all (suc w) l f h = (omega arith, omega (arith, h), f (omega (arith, h)))

pub parts-left : (all : ℕ) (v : List Float) → weight_sum (weights_left v) ≤ all → Parts all (weights_left v)
unfolding weights_left
parts-left all [] h = tt
parts-left all (x ∷ l) h = parts-kept all (weight_of x) (weights_left l) (parts-left all l) h

pub part_at : (all : ℕ) (l : List ℕ) (i : ℕ) → Parts all l → i < length l → (0 < get_or l i 0) × (get_or l i 0 ≤ all)
part_at all [] i p h = absurd (omega (arith, h))
part_at all (w ∷ l) zero p h = (p.0, p.1)
part_at all (w ∷ l) (suc i) p h = part_at all l i p.2 (omega (arith, h))

-- ---- the cells of a weight's band

module _ (all : ℕ) where
  further : (j : ℕ) (w : ℕ) (l : List ℕ) (i : ℕ) → get_or (bands_of all (w ∷ l)) (3 * suc i + j) 0 ≡ get_or (bands_of all l) (3 * i + j) 0
  unfolding bands_of
  further j w l i =
      let e : 3 * suc i + j ≡ suc (suc (suc (3 * i + j))) = omega arith in
      ap (λ (y : ℕ). get_or (bands_of all (w ∷ l)) y 0) e

  pub cell-weight : (l : List ℕ) (i : ℕ) → i < length l → get_or (bands_of all l) (3 * i + 0) 0 ≡ get_or l i 0
  unfolding bands_of
  cell-weight [] i h = absurd (omega (arith, h))
  cell-weight (w ∷ l) zero h = refl
  cell-weight (w ∷ l) (suc i) h = further 0 w l i ∙ cell-weight l i (omega (arith, h))

  pub cell-low : (l : List ℕ) (i : ℕ) → i < length l → get_or (bands_of all l) (3 * i + 1) 0 ≡ lo_of (get_or l i 0) all
  unfolding bands_of
  cell-low [] i h = absurd (omega (arith, h))
  cell-low (w ∷ l) zero h = refl
  cell-low (w ∷ l) (suc i) h = further 1 w l i ∙ cell-low l i (omega (arith, h))

  pub cell-high : (l : List ℕ) (i : ℕ) → i < length l → get_or (bands_of all l) (3 * i + 2) 0 ≡ hi_of (get_or l i 0) all
  unfolding bands_of
  cell-high [] i h = absurd (omega (arith, h))
  cell-high (w ∷ l) zero h = refl
  cell-high (w ∷ l) (suc i) h = further 2 w l i ∙ cell-high l i (omega (arith, h))

-- ---- all of them together

-- a weight's own power of both sides
own-left : (w e : ℕ) → (2 ^ e * w ^ 4096) ^ w ≡ 2 ^ (w * e) * w ^ (4096 * w)
own-left w e = mul-pow (2 ^ e) (w ^ 4096) w ∙ ap₂ (λ (x y : ℕ). x * y) (pow-pow 2 e w) (pow-pow w 4096 w ∙ ap (λ (x : ℕ). w ^ x) (mul_comm w 4096))

own-right : (w all : ℕ) → (all ^ 4096) ^ w ≡ all ^ (4096 * w)
own-right w all = pow-pow all 4096 w ∙ ap (λ (x : ℕ). all ^ x) (mul_comm w 4096)

gather : (w e s p : ℕ) → 2 ^ (w * e + s) * (w ^ (4096 * w) * p) ≡ 2 ^ (w * e) * w ^ (4096 * w) * (2 ^ s * p)
gather w e s p = ap (λ (x : ℕ). x * (w ^ (4096 * w) * p)) (pow-add 2 (w * e) s) ∙ swap (2 ^ (w * e)) (2 ^ s) (w ^ (4096 * w)) p
  where
    swap : (a b c d : ℕ) → a * b * (c * d) ≡ a * c * (b * d)
    swap a b c d = simp (mul_assoc, mul_left_comm)

split-power : (all w s : ℕ) → all ^ (4096 * w) * all ^ (4096 * s) ≡ all ^ (4096 * (w + s))
split-power all w s = sym (pow-add all (4096 * w) (4096 * s)) ∙ ap (λ (x : ℕ). all ^ x) (sym (mul-add 4096 w s))

module _ (all : ℕ) (few : all < 2 ^ 32) where
  pub product-low : (l : List ℕ) → Parts all l → 2 ^ low_sum all l * weight_powers l ≤ all ^ (4096 * weight_sum l)
  unfolding low_sum weight_powers weight_sum
  product-low [] p = le_of_eq (sym (pow-zero all))
  product-low (w ∷ l) p =
      let one : 2 ^ (w * lo_of w all) * w ^ (4096 * w) ≤ all ^ (4096 * w)
      = le_trans (le_of_eq (sym (own-left w (lo_of w all)))) (le_trans (pow-le-pow_left (band-lower w all p.0 p.1 few) w) (le_of_eq (own-right w all))) in
      le_trans (le_of_eq (gather w (lo_of w all) (low_sum all l) (weight_powers l)))
      (le_trans (mul-le-mul one (product-low l p.2)) (le_of_eq (split-power all w (weight_sum l))))

  pub product_high : (l : List ℕ) → Parts all l → all ^ (4096 * weight_sum l) ≤ 2 ^ high_sum all l * weight_powers l
  unfolding high_sum weight_powers weight_sum
  product_high [] p = le_of_eq (pow-zero all)
  product_high (w ∷ l) p =
      let one : all ^ (4096 * w) ≤ 2 ^ (w * hi_of w all) * w ^ (4096 * w)
      = le_trans (le_of_eq (sym (own-right w all))) (le_trans (pow-le-pow_left (band-upper w all p.0 p.1 few) w) (le_of_eq (own-left w (hi_of w all)))) in
      le_trans (le_of_eq (sym (split-power all w (weight_sum l))))
      (le_trans (mul-le-mul one (product_high l p.2)) (le_of_eq (sym (gather w (hi_of w all) (high_sum all l) (weight_powers l)))))
