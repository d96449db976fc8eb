-- Laws of what `specs/Terms.antt` defines. Assumes nothing.
use mathlib.Core.Path.{◌≡◌, refl, ap, ap₂, ◌∙◌}
use mathlib.Core.Logic.{⊎_elim}
use mathlib.Core.List.{List}
use Prim.Native.Nat.{ℕ, zero, suc, ◌+◌, ◌<◌}
use native.Mathlib.Nat.{eq-or-lt_of_le, add_assoc}
use native.Mathlib.Numerals.{add-one}
use native.Mathlib.Omega.{arith}
use lib.Ieee as Ieee
use lib.Ieee.{Float, binary64, nan}
use lib.ListN.{length, get_or, set, length-set}
use lib.Seq.{get_or-set_same, get_or-set_other}
use Rattle.complex.specs.declared.Complex.{Complex}
use Rattle.complex.specs.Arithmetic.{complex_of, product, sum_of, conjugate, norm_sqr}
use Rattle.complex.specs.Planes.{plane_at}
use Rattle.svd_gram.specs.declared.GramSums.{GramSums}
use Rattle.svd_gram.specs.Gram.{one_row, gram_to}
use Rattle.svd_gram.specs.Terms.{Terms, added_to}

pub added_to-none : (g : GramSums) (t : List Float) → added_to g t 0 ≡ g
unfolding added_to
added_to-none g t = refl

pub added_to-more : (g : GramSums) (t : List Float) (k : ℕ) {s : GramSums} → s ≡ added_to g t k
    → record {
      pp = Ieee.add binary64 s.pp (get_or t k nan);
      qq = Ieee.add binary64 s.qq (get_or t (32 + k) nan);
      pq = sum_of s.pq (complex_of (get_or t (64 + k) nan) (get_or t (96 + k) nan));
    } ≡ added_to g t (k + 1)
unfolding added_to
added_to-more g t k e = rw (e, add-one)

-- no row yet, and one more
pub terms-none : (xs : List Float) (c a b : ℕ) (t : List Float) → length t ≡ 128 → Terms xs c a b 0 t
terms-none xs c a b t h = record { room = h; pp = λ j l. absurd (omega arith); qq = λ j l. absurd (omega arith); pq = λ j l. absurd (omega arith) }

-- the four numbers of the row k
abbrev row : List Float → ℕ → Float → Float → Complex → List Float
row t k x y z = set (set (set (set t k x) (32 + k) y) (64 + k) z.re) (96 + k) z.im

module _ (t : List Float) (k : ℕ) (x y : Float) (z : Complex) (h : length t ≡ 128) (l : k < 32) where
  row-long : length (row t k x y z) ≡ 128
  row-long = rw (length-set, length-set, length-set, length-set) h

  other : (j : ℕ) → (j ≡ k → ⊥) → (j ≡ 32 + k → ⊥) → (j ≡ 64 + k → ⊥) → (j ≡ 96 + k → ⊥) → get_or (row t k x y z) j nan ≡ get_or t j nan
  other j a b c d =
      get_or-set_other (set (set (set t k x) (32 + k) y) (64 + k) z.re) (96 + k) j z.im nan d
      ∙ get_or-set_other (set (set t k x) (32 + k) y) (64 + k) j z.re nan c
      ∙ get_or-set_other (set t k x) (32 + k) j y nan b
      ∙ get_or-set_other t k j x nan a

  first : get_or (row t k x y z) k nan ≡ x
  first =
      get_or-set_other (set (set (set t k x) (32 + k) y) (64 + k) z.re) (96 + k) k z.im nan (λ e. omega arith)
      ∙ get_or-set_other (set (set t k x) (32 + k) y) (64 + k) k z.re nan (λ e. omega arith)
      ∙ get_or-set_other (set t k x) (32 + k) k y nan (λ e. omega arith)
      ∙ get_or-set_same t k x nan (omega arith)

  second : get_or (row t k x y z) (32 + k) nan ≡ y
  second =
      get_or-set_other (set (set (set t k x) (32 + k) y) (64 + k) z.re) (96 + k) (32 + k) z.im nan (λ e. omega arith)
      ∙ get_or-set_other (set (set t k x) (32 + k) y) (64 + k) (32 + k) z.re nan (λ e. omega arith)
      ∙ get_or-set_same (set t k x) (32 + k) y nan (omega (arith, length-set t k x))

  third : get_or (row t k x y z) (64 + k) nan ≡ z.re
  third =
      get_or-set_other (set (set (set t k x) (32 + k) y) (64 + k) z.re) (96 + k) (64 + k) z.im nan (λ e. omega arith)
      ∙ get_or-set_same (set (set t k x) (32 + k) y) (64 + k) z.re nan (omega (arith, length-set (set t k x) (32 + k) y, length-set t k x))

  fourth : get_or (row t k x y z) (96 + k) nan ≡ z.im
  fourth =
      get_or-set_same (set (set (set t k x) (32 + k) y) (64 + k) z.re) (96 + k) z.im nan
      (omega (arith, length-set (set (set t k x) (32 + k) y) (64 + k) z.re, length-set (set t k x) (32 + k) y, length-set t k x))

  pub terms-more : (xs : List Float) (c a b : ℕ) → Terms xs c a b k t → x ≡ norm_sqr (plane_at xs c (a + k)) → y ≡ norm_sqr (plane_at xs c (b + k))
      → z ≡ product (conjugate (plane_at xs c (a + k))) (plane_at xs c (b + k)) → Terms xs c a b (k + 1) (row t k x y z)
  terms-more xs c a b s ex ey ez =
      record {
        room = row-long;
        pp =
            λ j g.
            ⊎_elim (λ (e : j ≡ k). rw (e, first) ex)
            (λ (f : j < k). other j (λ e. omega arith) (λ e. omega arith) (λ e. omega arith) (λ e. omega arith) ∙ s.pp j f)
            (eq-or-lt_of_le (omega arith));
        qq =
            λ j g.
            ⊎_elim (λ (e : j ≡ k). rw (e, second) ey)
            (λ (f : j < k). other (32 + j) (λ e. omega arith) (λ e. omega arith) (λ e. omega arith) (λ e. omega arith) ∙ s.qq j f)
            (eq-or-lt_of_le (omega arith));
        pq =
            λ j g.
            ⊎_elim (λ (e : j ≡ k). rw (e, third, fourth) ez)
            (λ (f : j < k).
            ap₂ complex_of
            (other (64 + j) (λ e. omega arith) (λ e. omega arith) (λ e. omega arith) (λ e. omega arith))
            (other (96 + j) (λ e. omega arith) (λ e. omega arith) (λ e. omega arith) (λ e. omega arith))
            ∙ s.pq j f)
            (eq-or-lt_of_le (omega arith));
      }

-- A BLOCK'S TERMS ADDED TO THE SUMS OF THE ROWS BEFORE IT
pub block-added : (xs : List Float) (c a b r w k : ℕ) (t : List Float) → Terms xs c (a + r) (b + r) w t → k < suc w → added_to (gram_to xs c a b r) t k ≡ gram_to xs c a b (r + k)
unfolding added_to gram_to one_row
block-added xs c a b r w zero t s l =
    let e : r ≡ r + 0 = omega arith in
    ap (gram_to xs c a b) e
block-added xs c a b r w (suc k) t s l =
    let e = block-added xs c a b r w k t s (omega arith) in
    let i : r + suc k ≡ suc (r + k) = omega arith in
    rw (e, s.pp k (omega arith), s.qq k (omega arith), s.pq k (omega arith), add_assoc a r k, add_assoc b r k, i)
