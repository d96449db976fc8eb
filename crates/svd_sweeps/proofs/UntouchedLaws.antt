-- Laws of what `specs/Untouched.antt` defines. Assumes nothing.
use mathlib.Core.Path.{◌≡◌, refl, ap, ◌∙◌}
use mathlib.Core.List.{List}
use Prim.Native.Nat.{ℕ, zero, suc, ◌+◌, ◌*◌, ◌≤◌, ◌<◌}
use native.Mathlib.Nat.{lt_of_not-le}
use native.Mathlib.Omega.{arith}
use lib.Ieee.{Float}
use Rattle.complex.specs.Planes.{plane_at}
use Rattle.svd_pair.specs.declared.Factors.{Factors}
use Rattle.svd_pair.specs.Decisions.{Decision}
use Rattle.std.proofs.Common.{None, Some}
use Rattle.svd_gram.specs.Gram.{gram_to}
use Rattle.svd_pair.specs.Decisions.{decision_of}
use Rattle.svd_pair.specs.Turns.{Making, turn_factors, turn_rows, applied}
use Rattle.svd_pair.proofs.TurnsLaws.{row_other}
use Rattle.whole_numbers.proofs.WholeLaws.{column_fits}
use Rattle.svd_sweeps.specs.Untouched.{decision_at}

rows_other : (g : Making) (f : Factors) (xs : List Float) (c x a b k : ℕ) → x < c → a + k ≤ c → b + k ≤ c
    → ((r : ℕ) → r < k → x ≡ a + r → ⊥) → ((r : ℕ) → r < k → x ≡ b + r → ⊥) → plane_at (turn_rows g f c a b k xs) c x ≡ plane_at xs c x
unfolding turn_rows
rows_other g f xs c x a b zero h ha hb na nb = refl
rows_other g f xs c x a b (suc k) h ha hb na nb =
    row_other g f (turn_rows g f c a b k xs) c x (a + k) (b + k) h (omega arith) (omega arith) (na k (omega arith)) (nb k (omega arith))
    ∙ rows_other g f xs c x a b k h (omega arith) (omega arith) (λ r l. na r (omega arith)) (λ r l. nb r (omega arith))

-- two columns of m cells share none
apart : (m p q r s : ℕ) → (p ≡ q → ⊥) → r < m → s < m → p * m + r ≡ q * m + s → ⊥
apart m p q r s n hr hs e =
    let up : q < suc p = lt_of_not-le (λ l. omega (arith, column_fits p q m l)) in
    let down : p < suc q = lt_of_not-le (λ l. omega (arith, column_fits q p m l)) in
    n (omega (arith, up, down))

-- a column x that is neither of those turned
pub column-other : (g : Making) (d : Decision) (m n p q x r : ℕ) (xs : List Float) → p < n → q < n → x < n → (x ≡ p → ⊥) → (x ≡ q → ⊥) → r < m
    → plane_at (applied g d (n * m) (p * m) (q * m) m xs) (n * m) (x * m + r) ≡ plane_at xs (n * m) (x * m + r)
unfolding applied
column-other g None m n p q x r xs hp hq h np nq hr = refl
column-other g (Some t) m n p q x r xs hp hq h np nq hr =
    rows_other g (turn_factors t.cosine t.sine t.phase) xs (n * m) (x * m + r) (p * m) (q * m) m
    (omega (arith, column_fits x n m h)) (column_fits p n m hp) (column_fits q n m hq)
    (λ s l. apart m x p r s np hr l) (λ s l. apart m x q r s nq hr l)

-- the same cells give the same sums
gram-same : (xs ys : List Float) (c a b k : ℕ) → ((r : ℕ) → r < k → plane_at xs c (a + r) ≡ plane_at ys c (a + r))
    → ((r : ℕ) → r < k → plane_at xs c (b + r) ≡ plane_at ys c (b + r)) → gram_to xs c a b k ≡ gram_to ys c a b k
unfolding gram_to
gram-same xs ys c a b zero f g = refl
gram-same xs ys c a b (suc k) f g =
    let e = gram-same xs ys c a b k (λ r l. f r (omega arith)) (λ r l. g r (omega arith)) in
    rw (e, f k (omega arith), g k (omega arith))

pub decision-other : (g : Making) (d : Decision) (m n p q x y : ℕ) (xs : List Float) → p < n → q < n → x < n → y < n
    → (x ≡ p → ⊥) → (x ≡ q → ⊥) → (y ≡ p → ⊥) → (y ≡ q → ⊥)
    → decision_at m n x y (applied g d (n * m) (p * m) (q * m) m xs) ≡ decision_at m n x y xs
unfolding decision_at
decision-other g d m n p q x y xs hp hq hx hy xp xq yp yq =
    ap decision_of
    (gram-same (applied g d (n * m) (p * m) (q * m) m xs) xs (n * m) (x * m) (y * m) m
    (λ r l. column-other g d m n p q x r xs hp hq hx xp xq l)
    (λ r l. column-other g d m n p q y r xs hp hq hy yp yq l))
