-- Laws of shifted numbers: how large they are, what they stand for, and how a list of them is made. Assumes nothing.
use mathlib.Core.Path.{◌≡◌, sym, ap, ap₂, subst, ◌∙◌}
use mathlib.Core.List.{List}
use Prim.Native.Nat.{ℕ, ◌+◌, ◌-◌, ◌*◌, ◌^◌, ◌≤◌, ◌<◌}
use native.Mathlib.Nat.{add-mul, mul-le-mul}
use native.Mathlib.Decide.{dec_le}
use native.Mathlib.Omega.{arith}
use lib.IntN.{ℤ, ◌*ℤ◌}
use lib.Ieee.{Float}
use lib.ListN.{length, get_or, drop, get_or-append}
use Rattle.tables.specs.Tables.{table, filled}
use Rattle.tables.proofs.TablesLaws.{length-filled, length-table, table_at}
use Rattle.countersign_sums.specs.declared.Whole.{Whole}
use Rattle.countersign_sums.specs.Wholes.{whole_of, times_of, weight}
use Rattle.countersign_sums.specs.Gaussians.{gaussian_of, heft, by_whole}
use Rattle.countersign_sums.specs.Integers.{value, values, Alike}
use Rattle.countersign_sums.proofs.Integers.{value_same, value-times}
use Rattle.countersign_cells.specs.Cells.{value_at, whole_cell}
use Rattle.countersign_cells.proofs.CellBounds.{value-small}
use Rattle.countersign_shifted.specs.Shifted.{shifted_at, Shifted}

pub made-shifted : (s : List Float) (i : ℕ) {x : Whole} → x ≡ value_at s i → 2 ^ 18 + x.over - x.under ≡ shifted_at s i
unfolding shifted_at
made-shifted s i e = ap (λ (x : Whole). 2 ^ 18 + x.over - x.under) e

pub under-small : (s : List Float) (i : ℕ) {x : Whole} → x ≡ value_at s i → weight x ≤ 2 ^ 18
under-small s i e = rw e (value-small s i)

pub shifted-small : (s : List Float) (i : ℕ) → shifted_at s i ≤ 2 ^ 19
unfolding shifted_at
shifted-small s i = omega (arith, value-small s i)

-- less 2^18 it is the number
pub shifted-is : (s : List Float) (i : ℕ) → value (whole_of (shifted_at s i) (2 ^ 18)) ≡ value (value_at s i)
unfolding shifted_at
shifted-is s i = value_same (whole_of (2 ^ 18 + (value_at s i).over - (value_at s i).under) (2 ^ 18)) (value_at s i) (omega (arith, value-small s i))

filled_at : (m i : ℕ) (f : ℕ → ℕ) (old : List ℕ) → i < m → get_or (filled m f old) i 0 ≡ f i
unfolding filled
filled_at m i f old h = get_or-append (table m f) (drop m old) 0 i (omega (arith, length-table m f)) ∙ table_at 0 m i f h

pub made_list : (x : List Float) (old xs : List ℕ) → length x ≤ length old → xs ≡ filled (length x) (shifted_at x) old → Shifted x xs
made_list x old xs h e = record {
  room = omega (arith, ap length e ∙ length-filled (length x) (shifted_at x) old h);
  stands = λ i l. ap (λ (y : List ℕ). get_or y i 0) e ∙ filled_at (length x) i (shifted_at x) old l;
}

module _ (x : List Float) (xs : List ℕ) (s : Shifted x xs) where
  pub number_is : (i : ℕ) → i < length x → value (whole_of (get_or xs i 0) (2 ^ 18)) ≡ value (value_at x i)
  number_is i h = ap (λ (n : ℕ). value (whole_of n (2 ^ 18))) (s.stands i h) ∙ shifted-is x i

  number_small : (i : ℕ) → i < length x → get_or xs i 0 ≤ 2 ^ 19
  number_small i h = subst (λ (n : ℕ). n ≤ 2 ^ 19) (sym (s.stands i h)) (shifted-small x i)

  pub read_small : (i : ℕ) → i < length x → {a : ℕ} → a ≡ get_or xs i 0 → a ≤ 2 ^ 19
  read_small i h e = rw e (number_small i h)

  cell-is : (c : ℕ) → 2 * c + 1 < length x
      → values (gaussian_of (whole_of (get_or xs (2 * c) 0) (2 ^ 18)) (whole_of (get_or xs (2 * c + 1) 0) (2 ^ 18))) ≡ values (whole_cell x c)
  unfolding values whole_cell
  cell-is c h = ap₂ (λ (p q : ℤ). (p, q)) (number_is (2 * c) (omega arith)) (number_is (2 * c + 1) h)

  cell-heft : (c : ℕ) → 2 * c + 1 < length x → heft (gaussian_of (whole_of (get_or xs (2 * c) 0) (2 ^ 18)) (whole_of (get_or xs (2 * c + 1) 0) (2 ^ 18))) ≤ 3 * 2 ^ 19
  unfolding heft
  cell-heft c h = omega (arith, number_small (2 * c) (omega arith), number_small (2 * c + 1) h)

  pub made-cell : (c : ℕ) → 2 * c + 1 < length x → {a b : ℕ} → a ≡ get_or xs (2 * c) 0 → b ≡ get_or xs (2 * c + 1) 0
      → Alike (gaussian_of (whole_of a (2 ^ 18)) (whole_of b (2 ^ 18))) (whole_cell x c) (3 * 2 ^ 19)
  made-cell c h e f = record {
    same = ap₂ (λ (p q : ℕ). values (gaussian_of (whole_of p (2 ^ 18)) (whole_of q (2 ^ 18)))) e f ∙ cell-is c h;
    light = rw (e, f) (cell-heft c h);
  }

-- ---- a product of two

-- (x - 2^18) (y - 2^18) is at least -2^36
pub product-least : (x y : ℕ) → x ≤ 2 ^ 19 → y ≤ 2 ^ 19 → 2 ^ 18 * (x + y) ≤ x * y + 2 ^ 37
product-least x y h l = go (dec_le x (2 ^ 18))
  where
    go : Dec (x ≤ 2 ^ 18) → 2 ^ 18 * (x + y) ≤ x * y + 2 ^ 37
    go (yes k) =
        let d : ℕ = 2 ^ 18 - x in
        let e : d + x ≡ 2 ^ 18 = omega arith in
        omega (arith, add-mul d x y, ap (λ (z : ℕ). z * y) e, mul-le-mul {n₁ = d} {m₁ = y} {n₂ = d} {m₂ = 2 ^ 19} (omega arith) l)
    go (no k) =
        let d : ℕ = x - 2 ^ 18 in
        let e : 2 ^ 18 + d ≡ x = omega arith in
        omega (arith, add-mul (2 ^ 18) d y, ap (λ (z : ℕ). z * y) e)

-- and at most 2^36
pub product-most : (x y : ℕ) → x ≤ 2 ^ 19 → y ≤ 2 ^ 19 → x * y ≤ 2 ^ 18 * (x + y)
product-most x y h l =
    omega (arith, mul-le-mul {n₁ = x} {m₁ = y} {n₂ = 2 ^ 19} {m₂ = y} h (omega arith), mul-le-mul {n₁ = x} {m₁ = y} {n₂ = x} {m₂ = 2 ^ 19} (omega arith) l)

pub product_is : (x y r : ℕ) → r + 2 ^ 18 * (x + y) ≡ x * y + 2 ^ 37 → value (whole_of r (2 ^ 36)) ≡ value (times_of (whole_of x (2 ^ 18)) (whole_of y (2 ^ 18)))
product_is x y r e = value_same (whole_of r (2 ^ 36)) (times_of (whole_of x (2 ^ 18)) (whole_of y (2 ^ 18))) (omega (arith, e))

module _ (x : List Float) (xs : List ℕ) (p : Shifted x xs) (s : List Float) (ss : List ℕ) (q : Shifted s ss) where
  scaled-is : (i t : ℕ) → i < length x → t < length s → (r : ℕ) → r + 2 ^ 18 * (get_or xs i 0 + get_or ss t 0) ≡ get_or xs i 0 * get_or ss t 0 + 2 ^ 37
      → value (whole_of r (2 ^ 36)) ≡ value (times_of (value_at x i) (value_at s t))
  scaled-is i t h l r e =
      product_is (get_or xs i 0) (get_or ss t 0) r e
      ∙ value-times (whole_of (get_or xs i 0) (2 ^ 18)) (whole_of (get_or ss t 0) (2 ^ 18))
      ∙ ap₂ (λ (a b : ℤ). a *ℤ b) (number_is x xs p i h) (number_is s ss q t l)
      ∙ sym (value-times (value_at x i) (value_at s t))

  pub made-scaled : (c t : ℕ) → 2 * c + 1 < length x → t < length s → {a b d f g : ℕ} → a ≡ get_or xs (2 * c) 0 → b ≡ get_or xs (2 * c + 1) 0 → d ≡ get_or ss t 0
      → (f + 2 ^ 18 * (a + d) ≡ a * d + 2 ^ 37) × (f ≤ 2 ^ 37) → (g + 2 ^ 18 * (b + d) ≡ b * d + 2 ^ 37) × (g ≤ 2 ^ 37)
      → Alike (gaussian_of (whole_of f (2 ^ 36)) (whole_of g (2 ^ 36))) (by_whole (whole_cell x c) (value_at s t)) (3 * 2 ^ 37)
  unfolding values by_whole whole_cell heft
  made-scaled c t h l {a} {b} {d} {f} {g} ea eb ed k m = record {
    same = ap₂ (λ (p q : ℤ). (p, q))
        (scaled-is (2 * c) t (omega arith) l f (ap₂ (λ (y z : ℕ). f + 2 ^ 18 * (y + z)) (sym ea) (sym ed) ∙ k.0 ∙ ap₂ (λ (y z : ℕ). y * z + 2 ^ 37) ea ed))
        (scaled-is (2 * c + 1) t h l g (ap₂ (λ (y z : ℕ). g + 2 ^ 18 * (y + z)) (sym eb) (sym ed) ∙ m.0 ∙ ap₂ (λ (y z : ℕ). y * z + 2 ^ 37) eb ed));
    light = omega (arith, k.1, m.1);
  }
