-- What each step of the code makes of the definitions. Assumes nothing.
use mathlib.Core.Path.{◌≡◌, refl, sym, ap, ap₂, ◌∙◌}
use mathlib.Core.Bool.{Bool, true, false, ◌&&◌}
use mathlib.Core.List.{List, append-nil}
use Prim.Native.Nat.{ℕ, zero, suc, ◌+◌, ◌-◌, ◌*◌, ◌≤◌, ◌<◌, max}
use native.Mathlib.Numerals.{add-one}
use native.Mathlib.Omega.{arith}
use lib.Dec.{ltb}
use lib.ListN.{length, drop_of_length-le}
use lib.Ieee as Ieee
use lib.Ieee.{Float, binary64}
use borrow.Author.Tests.{lt-ltb, le-ltb}
use Rattle.complex.specs.declared.Complex.{Complex}
use Rattle.complex.specs.Arithmetic.{complex_of, sum_of}
use Rattle.complex.specs.Cells.{cell_at, set_cell}
use Rattle.complex.proofs.Loops.{cond_yes, cond_no}
use Rattle.complex.specs.Zeros.{zero_float, zeros, zeroed}
use Rattle.qr_column.specs.Dot.{dot_of}
use Rattle.qr_column.specs.Columns.{column_of, norm_of, lessened}
use Rattle.qr_passes.specs.GramSchmidt.{one_float, retain, rank_floor, Held, held, projected_by, projected, pass_to, Passed, passed, passes, new_basis, kept_column, judged, Factors, factors, PassesWorked, add_column, qr_columns_to, basis_for}

-- ---- one column against the basis

pub project-made : (q : List Float) (o rows at : ℕ) (v r : List Float) {d x t : Complex} {v' r' : List Float} → d ≡ dot_of q o v rows
    → v' ≡ lessened v q o rows d → x ≡ cell_at r at → t ≡ sum_of x d → r' ≡ set_cell r at t → held v' r' ≡ projected q o rows at (held v r)
unfolding projected projected_by
project-made q o rows at v r {d} e f g h i =
    ap₂ held (f ∙ ap (λ (z : Complex). lessened v q o rows z) e) (i ∙ ap (set_cell r at) (h ∙ ap₂ sum_of g e))

pub pass-none : (q : List Float) (rows cols j : ℕ) (s : Held) → s ≡ pass_to q rows cols j s 0
unfolding pass_to
pass-none q rows cols j s = refl

pub pass-more : (q : List Float) (rows cols j : ℕ) (s : Held) (i : ℕ) {t u : Held} → t ≡ pass_to q rows cols j s i
    → u ≡ projected q (i * rows) rows (i * cols + j) t → u ≡ pass_to q rows cols j s (i + 1)
unfolding pass_to
pass-more q rows cols j s i e f = rw (add-one, ← e) f

-- ---- the passes: the loop has done k of n, and what is left gives the same end

module _ (q : List Float) (rank rows cols j : ℕ) where
  pub passes-stop : (k : ℕ) (previous : Float) (s : Held) {t : Held} {x : Float} → t ≡ pass_to q rows cols j s rank → x ≡ norm_of t.v rows
      → Ieee.lt (Ieee.mul binary64 retain previous) x ≡ true → passed t x ≡ passes q rank rows cols j (suc k) previous s
  unfolding passes
  passes-stop k previous s {t} {x} e f h =
      let n : x ≡ norm_of (pass_to q rows cols j s rank).v rows = f ∙ ap (λ (z : Held). norm_of z.v rows) e in
      ap₂ passed e n
      ∙ sym (cond_yes
      (passed (pass_to q rows cols j s rank) (norm_of (pass_to q rows cols j s rank).v rows))
      (passes q rank rows cols j k (norm_of (pass_to q rows cols j s rank).v rows) (pass_to q rows cols j s rank))
      (sym (ap (Ieee.lt (Ieee.mul binary64 retain previous)) n) ∙ h))

  pub passes_go : (k : ℕ) (previous : Float) (s : Held) {t : Held} {x : Float} → t ≡ pass_to q rows cols j s rank → x ≡ norm_of t.v rows
      → Ieee.lt (Ieee.mul binary64 retain previous) x ≡ false → passes q rank rows cols j k x t ≡ passes q rank rows cols j (suc k) previous s
  unfolding passes
  passes_go k previous s {t} {x} e f h =
      let n : x ≡ norm_of (pass_to q rows cols j s rank).v rows = f ∙ ap (λ (z : Held). norm_of z.v rows) e in
      ap₂ (passes q rank rows cols j k) n e
      ∙ sym (cond_no
      (passed (pass_to q rows cols j s rank) (norm_of (pass_to q rows cols j s rank).v rows))
      (passes q rank rows cols j k (norm_of (pass_to q rows cols j s rank).v rows) (pass_to q rows cols j s rank))
      (sym (ap (Ieee.lt (Ieee.mul binary64 retain previous)) n) ∙ h))

  pub passes-end : (previous : Float) (s : Held) → passed s previous ≡ passes q rank rows cols j 0 previous s
  unfolding passes
  passes-end previous s = refl

-- where there is no basis column yet a pass leaves the column as it is, and its norm is the one before the pass
pub first-stop : (q : List Float) (rank rows cols j : ℕ) (norm : Float) (s : Held) → rank ≡ 0 → norm ≡ norm_of s.v rows
    → Ieee.lt (Ieee.mul binary64 retain norm) norm ≡ true → passed s norm ≡ passes q rank rows cols j 3 norm s
first-stop q zero rows cols j norm s e f h = passes-stop q 0 rows cols j 2 norm s (pass-none q rows cols j s) f h
first-stop q (suc k) rows cols j norm s e f h = absurd (omega arith)

-- the same by the loop's counter: k of n passes are done
module _ (q : List Float) (rank rows cols j n k : ℕ) (previous : Float) (s : Held) {e : Passed} (i : passes q rank rows cols j (n - k) previous s ≡ e) where
  next : k < n → passes q rank rows cols j (suc (n - (k + 1))) previous s ≡ e
  next h =
      let m : suc (n - (k + 1)) ≡ n - k = omega arith in
      ap (λ (x : ℕ). passes q rank rows cols j x previous s) m ∙ i

  pub step-stop : {t : Held} {x : Float} → k < n → t ≡ pass_to q rows cols j s rank → x ≡ norm_of t.v rows
      → Ieee.lt (Ieee.mul binary64 retain previous) x ≡ true → passed t x ≡ e
  step-stop h f g l = passes-stop q rank rows cols j (n - (k + 1)) previous s f g l ∙ next h

  pub step-go : {t : Held} {x : Float} → k < n → t ≡ pass_to q rows cols j s rank → x ≡ norm_of t.v rows
      → Ieee.lt (Ieee.mul binary64 retain previous) x ≡ false → passes q rank rows cols j (n - (k + 1)) x t ≡ e
  step-go h f g l = passes_go q rank rows cols j (n - (k + 1)) previous s f g l ∙ next h

  pub step-spent : n ≤ k → passed s previous ≡ e
  step-spent h =
      let m : 0 ≡ n - k = omega arith in
      passes-end q rank rows cols j previous s ∙ ap (λ (x : ℕ). passes q rank rows cols j x previous s) m ∙ i

-- ---- a column is kept or dropped

and_yes : (a b : Bool) → a ≡ true → b ≡ true → a && b ≡ true
and_yes a b e f = rw (e, f)

and_none : (a b : Bool) → a ≡ false → a && b ≡ false
and_none a b e = rw e

and_no : (a b : Bool) → b ≡ false → a && b ≡ false
and_no true b f = f
and_no false b f = refl

module _ (rows cols cap j : ℕ) (norm : Float) (q : List Float) (rank : ℕ) (v r : List Float) (residual : Float) where
  test : Bool
  test = ltb rank cap && Ieee.lt (Ieee.mul binary64 rank_floor norm) residual

  dropped : test ≡ false → factors q r rank ≡ judged rows cols cap j norm q rank (passed (held v r) residual)
  unfolding judged test
  dropped h = sym (cond_no (kept_column rows cols j q rank (passed (held v r) residual)) (factors q r rank) h)

  pub judge-full : cap ≤ rank → factors q r rank ≡ judged rows cols cap j norm q rank (passed (held v r) residual)
  unfolding test
  judge-full h = dropped (and_none (ltb rank cap) (Ieee.lt (Ieee.mul binary64 rank_floor norm) residual) (le-ltb rank cap h))

  pub judge-dropped : Ieee.lt (Ieee.mul binary64 rank_floor norm) residual ≡ false
      → factors q r rank ≡ judged rows cols cap j norm q rank (passed (held v r) residual)
  unfolding test
  judge-dropped h = dropped (and_no (ltb rank cap) (Ieee.lt (Ieee.mul binary64 rank_floor norm) residual) h)

  pub judge-kept : {q' r' : List Float} → rank < cap → Ieee.lt (Ieee.mul binary64 rank_floor norm) residual ≡ true
      → q' ≡ new_basis v residual rows (rank * rows) q → r' ≡ set_cell r (rank * cols + j) (complex_of residual zero_float)
      → factors q' r' (rank + 1) ≡ judged rows cols cap j norm q rank (passed (held v r) residual)
  unfolding judged kept_column
  judge-kept h l e f =
      ap₂ (λ (x y : List Float). factors x y (rank + 1)) e f
      ∙ sym (cond_yes (kept_column rows cols j q rank (passed (held v r) residual)) (factors q r rank)
      (and_yes (ltb rank cap) (Ieee.lt (Ieee.mul binary64 rank_floor norm) residual) (lt-ltb rank cap h) l))

pub column-worked : (a : List Float) (rows cols j : ℕ) (q r : List Float) (rank : ℕ) {u v' r' : List Float} {norm residual : Float} → u ≡ column_of a (j * rows) rows
    → norm ≡ norm_of u rows → passed (held v' r') residual ≡ passes q rank rows cols j 3 norm (held u r)
    → PassesWorked a rows cols j q r rank norm residual v' r'
column-worked a rows cols j q r rank e f g = record { norm-is = rw e at f; passes-are = rw e at g }

pub column-added : (a : List Float) (rows cols cap j : ℕ) (q r : List Float) (rank : ℕ) {norm residual : Float} {v' r' : List Float} {f : Factors}
    → PassesWorked a rows cols j q r rank norm residual v' r' → f ≡ judged rows cols cap j norm q rank (passed (held v' r') residual)
    → f ≡ add_column a rows cols cap j (factors q r rank)
unfolding add_column
column-added a rows cols cap j q r rank {norm} w e =
    e
    ∙ ap (judged rows cols cap j norm q rank) w.passes-are
    ∙ ap
    (λ (x : Float). judged rows cols cap j x q rank (passes q rank rows cols j 3 x (held (column_of a (j * rows) rows) r)))
    w.norm-is

-- ---- the columns in order

pub columns-none : (a : List Float) (rows cols cap : ℕ) (f : Factors) → f ≡ qr_columns_to a rows cols cap f 0
unfolding qr_columns_to
columns-none a rows cols cap f = refl

pub columns-more : (a : List Float) (rows cols cap : ℕ) (f : Factors) (j : ℕ) {g h : Factors} → g ≡ qr_columns_to a rows cols cap f j
    → h ≡ add_column a rows cols cap j g → h ≡ qr_columns_to a rows cols cap f (j + 1)
unfolding qr_columns_to
columns-more a rows cols cap f j e g = rw (add-one, ← e) g

-- ---- the matrix with no direction

pub basis-first : (rank : ℕ) (q : List Float) {q' : List Float} {z : Complex} → rank ≡ 0 → z ≡ complex_of one_float zero_float → q' ≡ set_cell q 0 z
    → (q' ≡ basis_for rank q) × (1 ≡ max 1 rank)
unfolding basis_for
basis-first zero q h e f = (f ∙ ap (set_cell q 0) e, refl)
basis-first (suc k) q h e f = absurd (omega arith)

pub basis-kept : (rank : ℕ) (q : List Float) → (rank ≡ 0 → ⊥) → (q ≡ basis_for rank q) × (rank ≡ max 1 rank)
unfolding basis_for
basis-kept zero q h = absurd (h refl)
basis-kept (suc k) q h = (refl, omega arith)

-- ---- the whole

pub zeroed-all : (old : List Float) {n : ℕ} → length old ≡ n → zeroed (length old) old ≡ zeros n
unfolding zeroed
zeroed-all old h = rw (drop_of_length-le old {i = length old} (omega arith)) (append-nil (zeros (length old)) ∙ ap zeros h)
