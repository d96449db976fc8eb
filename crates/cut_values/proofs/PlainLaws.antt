-- The sweeps of a cut's work matrix, exact or plain, leave the norms, the marks and the counts that are asked. Assumes nothing.
use mathlib.Core.Path.{◌≡◌, refl, sym, ap, subst, ◌∙◌}
use mathlib.Core.Bool.{Bool, true, false, cond, false≢true}
use mathlib.Core.List.{List, [], ◌∷◌}
use Prim.Native.Nat.{ℕ, zero, suc, ◌+◌, ◌*◌, ◌^◌, ◌<◌}
use native.Mathlib.Omega.{arith}
use lib.Ieee.{Float, nan}
use lib.ListN.{length, get_or}
use Rattle.numbers.specs.Numbers.{is_finite}
use Rattle.complex.specs.Planes.{plane_at}
use Rattle.cut_sides.specs.declared.Sides.{Sides}
use Rattle.svd_pair.specs.Turns.{Making}
use Rattle.svd_pair.specs.Plain.{plain, making}
use Rattle.svd_columns.specs.Columns.{norms_of, norms_exact}
use Rattle.sweeps.specs.declared.Sweeps.{Sweeps}
use Rattle.sweeps.specs.Sweeping.{State, state}
use Rattle.svd_sweeps.specs.Sweeping.{settled_with}
use Rattle.svd_sweeps.proofs.SweepingLaws.{settled-exact}
use Rattle.plain_sweeps.proofs.Planes.{Fine}
use Rattle.plain_sweeps.proofs.Theorems.{settled-lengths, plain-alike-alone, norms-alike, marks-alike}
use Rattle.values.specs.Lists.{all_finite}
use Rattle.svd.specs.Svd.{work_of}
use Rattle.cut_values.specs.Schmidt.{CutValuesSized, sides_matrix, CutValuesSettled}
use Rattle.cut_values.proofs.SchmidtLaws.{all-cells, alone_of, settled-by}

-- ---- finite numbers

-- both tests hold
both : (a b : Bool) → cond a b false ≡ true → (a ≡ true) × (b ≡ true)
both true b h = (refl, h)
both false b h = absurd (false≢true h)

-- where all are finite, each is
finite-at : (l : List Float) (i : ℕ) → all_finite l ≡ true → i < length l → is_finite (get_or l i nan) ≡ true
unfolding all_finite
finite-at [] i h k = absurd (omega arith)
finite-at (x ∷ l) zero h k = (both (is_finite x) (all_finite l) h).0
finite-at (x ∷ l) (suc i) h k = finite-at l i (both (is_finite x) (all_finite l) h).1 (omega arith)

-- a matrix of finite numbers
finite-fine : (c : ℕ) (ys : List Float) → length ys ≡ 2 * c → all_finite ys ≡ true → Fine c ys
unfolding plane_at
finite-fine c ys l h =
    record {
      size = l;
      cells = λ i k. record { re = finite-at ys i h (omega arith); im = finite-at ys (c + i) h (omega arith) };
    }

-- ---- the sweeps

-- from the matrix that was gathered
pub settled-from : (g : Making) (m n : ℕ) {w w' : List Float} {t : State} → w ≡ w' → t ≡ settled_with g m n w [] → t ≡ settled_with g m n w' []
settled-from g m n e h = h ∙ ap (λ (x : List Float). settled_with g m n x []) e

-- with the products by zeros
pub settled-exactly : (s : List Float) (n : ℕ) (z : Sides) (x : List Float) (r : Sweeps) → CutValuesSized n z s
    → state x [] r ≡ settled_with (making false) z.columns z.rows (work_of (sides_matrix s n z) z.rows z.columns) [] → CutValuesSettled s n z x r
settled-exactly s n z x r p h =
    let e : alone_of s n z ≡ state x [] r = sym (h ∙ settled-exact z.columns z.rows (work_of (sides_matrix s n z) z.rows z.columns) []) in
    settled-by s n z x r p
    (ap (λ (t : State). norms_of t.work z.columns z.rows) e)
    (ap (λ (t : State). norms_exact t.work z.columns z.rows) e)
    (ap (λ (t : State). t.sweeps) e)

-- without them, where every number that is left is finite
pub settled-plainly : (s : List Float) (n : ℕ) (z : Sides) (x : List Float) (r : Sweeps) {b : Bool} → CutValuesSized n z s → length x ≡ 2 * 2 ^ n
    → state x [] r ≡ settled_with (making true) z.columns z.rows (work_of (sides_matrix s n z) z.rows z.columns) []
    → b ≡ all_finite x → b ≡ true → CutValuesSettled s n z x r
unfolding making
settled-plainly s n z x r p l h f t =
    let a = work_of (sides_matrix s n z) z.rows z.columns in
    let e : x ≡ (settled_with plain z.columns z.rows a []).work = ap (λ (t : State). t.work) h in
    let lx : length x ≡ 2 * (z.rows * z.columns) = l ∙ ap (λ (k : ℕ). 2 * k) (sym (all-cells n z s p)) in
    let la : length a ≡ 2 * (z.rows * z.columns) = sym (settled-lengths plain z.columns z.rows a []).0 ∙ ap length (sym e) ∙ lx in
    let q = plain-alike-alone z.columns z.rows a la (subst (Fine (z.rows * z.columns)) e (finite-fine (z.rows * z.columns) x lx (sym f ∙ t))) in
    settled-by s n z x r p
    (norms-alike z.columns z.rows _ _ q.0 ∙ ap (λ (y : List Float). norms_of y z.columns z.rows) (sym e))
    (marks-alike z.columns z.rows _ _ q.0 ∙ ap (λ (y : List Float). norms_exact y z.columns z.rows) (sym e))
    (q.1 ∙ ap (λ (t : State). t.sweeps) (sym h))
