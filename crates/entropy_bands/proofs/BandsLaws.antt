-- The tests, and the sums of finished values. Assumes nothing.
use mathlib.Core.Path.{◌≡◌, refl, sym, ap, subst, ◌∙◌}
use mathlib.Core.Bool.{true, false, not}
use mathlib.Core.List.{List, [], ◌∷◌, ◌++◌}
use Prim.Native.Nat.{ℕ, zero, suc, ◌-◌, ◌*◌, ◌^◌, ◌≤◌, ◌<◌}
use native.Mathlib.Omega.{arith}
use borrow.Author.Tests.{eq-eqb, ne_eqb, eqb-true, ltb-false, not-false, le-ltb}
use lib.Dec.{eqb, ltb}
use lib.Ieee.{Float}
use lib.ListN.{length, replicate}
use Rattle.std.proofs.Common.{Ok, Err}
use Rattle.answers.specs.Paper.{Reply, done, refuse, after, and_then, exactly, room}
use Rattle.answers.specs.declared.Refusal.TheVariants.{NoWeight}
use Rattle.answers.proofs.PaperLaws.{refuse-done, and_then-done, refuse-small, after_small}
use Rattle.complex.specs.Cells.{components}
use Rattle.complex.proofs.CellLaws.{components-small}
use Rattle.cut_sides.specs.Sides.{cut_refusal}
use Rattle.sweeps.specs.declared.Sweeps.{Sweeps}
use Rattle.cut_values.specs.Schmidt.{cut_rows, cut_values_scratch, cut_values_lengths, cut_values_rest, cut_values_tests}
use Rattle.cut_values.proofs.SchmidtLaws.{cut_small}
use Rattle.entropy_powers.specs.declared.Powers.{Powers}
use Rattle.entropy_powers.specs.Powers.{powers_of}
use Rattle.entropy_sums.specs.declared.Sums.{Sums}
use Rattle.entropy_sums.specs.Sums.{weights_left, whole_weight, bands_of, FillReady, Filled}
use Rattle.entropy_sums.proofs.SumLaws.{none_left, some_left, whole-less}
use Rattle.entropy_bands.specs.Bands.{entropy_lengths, entropy_rest, entropy_tests, bands_left, SumReady, SummedUp}

-- ---- the tests

-- what lengths that are not refused are
pub lengths-done : (n rows state bands scratch : ℕ) → (entropy_lengths n rows state bands scratch).0 ≡ 0
    → (state ≡ 2 * 2 ^ n) × (3 * rows ≤ bands) × (cut_values_scratch n rows ≤ scratch)
unfolding entropy_lengths
lengths-done n rows state bands scratch e =
    let a = and_then-done (exactly 0 state (2 * 2 ^ n)) (and_then (room 2 bands (3 * rows)) (room 3 scratch (cut_values_scratch n rows))) e in
    let b = and_then-done (room 2 bands (3 * rows)) (room 3 scratch (cut_values_scratch n rows)) a.1 in (
      eqb-true state (2 * 2 ^ n) (not-false (eqb state (2 * 2 ^ n)) (refuse-done (not (eqb state (2 * 2 ^ n))) 5 0 done a.0).0),
      ltb-false bands (3 * rows) (refuse-done (ltb bands (3 * rows)) 5 2 done b.0).0,
      ltb-false scratch (cut_values_scratch n rows) (refuse-done (ltb scratch (cut_values_scratch n rows)) 5 3 done b.1).0,
    )

module _ (s : List Float) (n rows bands scratch : ℕ) (e : (entropy_rest s n rows bands scratch).0 ≡ 0) where
  rest-parts : ((entropy_lengths n rows (length s) bands scratch).0 ≡ 0) × ((components 0 s).0 ≡ 0)
  unfolding entropy_rest
  rest-parts = and_then-done (entropy_lengths n rows (length s) bands scratch) (components 0 s) e

  pub rest-done : (length s ≡ 2 * 2 ^ n) × (3 * rows ≤ bands) × (cut_values_scratch n rows ≤ scratch)
  rest-done = lengths-done n rows (length s) bands scratch rest-parts.0

  -- then the cut's tests pass over values of exactly its need
  pub cut-rest : (cut_values_rest s n rows rows scratch).0 ≡ 0
  unfolding cut_values_rest cut_values_lengths
  cut-rest =
      let d = rest-done in
      let one : eqb (length s) (2 * 2 ^ n) ≡ true = eq-eqb (length s) (2 * 2 ^ n) d.0 in
      let two : ltb rows rows ≡ false = le-ltb rows rows (omega arith) in
      let three : ltb scratch (cut_values_scratch n rows) ≡ false = le-ltb scratch (cut_values_scratch n rows) d.2 in
      rw (one, two, three) rest-parts.1

pub cut-tests : (s : List Float) (n : ℕ) (l : List ℕ) (cap rows scratch : ℕ) → rows ≡ cut_rows n l → (cut_refusal l n cap).0 ≡ 0 → (cut_values_rest s n rows rows scratch).0 ≡ 0
    → (cut_values_tests s n l cap rows scratch).0 ≡ 0
unfolding cut_values_tests
cut-tests s n l cap rows scratch e c h =
    ap (λ (y : Reply). y.0) (ap (λ (k : ℕ). after k (cut_refusal l n cap) (cut_values_rest s n (cut_rows n l) rows scratch)) c)
    ∙ ap (λ (y : ℕ). (cut_values_rest s n y rows scratch).0) (sym e) ∙ h

-- 1 to 7
rest-small : (s : List Float) (n rows bands scratch : ℕ) → (entropy_rest s n rows bands scratch).0 < 8
unfolding entropy_rest entropy_lengths
rest-small s n rows bands scratch =
    let six : 6 < 8 = omega arith in
    let none : done.0 < 8 = omega arith in
    let a = exactly 0 (length s) (2 * 2 ^ n) in
    let b = room 2 bands (3 * rows) in
    let d = room 3 scratch (cut_values_scratch n rows) in
    let a' : a.0 < 8 = refuse-small (not (eqb (length s) (2 * 2 ^ n))) 6 0 done six none in
    let b' : b.0 < 8 = refuse-small (ltb bands (3 * rows)) 6 2 done six none in
    let d' : d.0 < 8 = refuse-small (ltb scratch (cut_values_scratch n rows)) 6 3 done six none in
    after_small (and_then a (and_then b d)).0 (and_then a (and_then b d)) (components 0 s)
    (after_small a.0 a (and_then b d) a' (after_small b.0 b d b' d')) (components-small 0 s)

pub tests-small : (s : List Float) (n : ℕ) (l : List ℕ) (cap bands scratch : ℕ) → (entropy_tests s n l cap bands scratch).0 < 8
unfolding entropy_tests
tests-small s n l cap bands scratch =
    after_small (cut_refusal l n cap).0 (cut_refusal l n cap) (entropy_rest s n (cut_rows n l) bands scratch) (cut_small l n cap) (rest-small s n (cut_rows n l) bands scratch)

pub tests-rest : (s : List Float) (n : ℕ) (l : List ℕ) (cap rows bands scratch : ℕ) → rows ≡ cut_rows n l → (cut_refusal l n cap).0 ≡ 0
    → entropy_rest s n rows bands scratch ≡ entropy_tests s n l cap bands scratch
unfolding entropy_tests
tests-rest s n l cap rows bands scratch e c =
    ap (λ (y : ℕ). entropy_rest s n y bands scratch) e ∙ sym (ap (λ (k : ℕ). after k (cut_refusal l n cap) (entropy_rest s n (cut_rows n l) bands scratch)) c)

-- ---- the sums of finished values

pub bands-length : (all : ℕ) (l : List ℕ) → length (bands_of all l) ≡ 3 * length l
unfolding bands_of
bands-length all [] = omega arith
bands-length all (w ∷ l) = omega (arith, bands-length all l)

no-weight : (n : ℕ) → n ≡ 0 → refuse (eqb n 0) (8, 0) done ≡ (8, 0)
no-weight n h = let e : eqb n 0 ≡ true = eq-eqb n 0 h in rw e

a-weight : (n : ℕ) → 0 < n → refuse (eqb n 0) (8, 0) done ≡ done
a-weight n h = let e : eqb n 0 ≡ false = ne_eqb n 0 (λ z. absurd (omega (arith, z, h))) in rw e

pub sum-none : (values : List Float) (sweeps : Sweeps) (bands : List ℕ) (all : ℕ) → SumReady values bands → all ≡ whole_weight values → all ≡ 0
    → SummedUp values sweeps (length bands) (Err NoWeight) bands
sum-none values sweeps bands all ready e z =
    let f : length (weights_left values) ≡ 0 = ap length (none_left values (sym e ∙ z)) in
    record {
      answer = sym (no-weight (length (weights_left values)) f);
      told = record { count = refl; low = refl; high = refl; whole = refl; sweeps-are = refl };
      bands-are = ready.blank;
    }

pub some-whole : (all : ℕ) → (all ≡ 0 → ⊥) → 0 < all
some-whole zero n = absurd (n refl)
some-whole (suc k) n = omega arith

pub sum-some : (values : List Float) (sweeps : Sweeps) (long all : ℕ) (t : Sums) (end : List ℕ) → all ≡ whole_weight values → (all ≡ 0 → ⊥) → Filled values long t end
    → SummedUp values sweeps long (Ok (record { count = t.count; low = t.low; high = t.high; whole = 4096 * all; sweeps = sweeps })) end
sum-some values sweeps long all t end e z f =
    let p : 0 < length (weights_left values) = some_left (weights_left values) (subst (λ (y : ℕ). 0 < y) e (some-whole all z)) in
    record {
      answer = sym (a-weight (length (weights_left values)) p);
      told = record { count = f.count-is; low = f.low-is; high = f.high_is; whole = ap (λ (y : ℕ). 4096 * y) e; sweeps-are = refl };
      bands-are = f.bands-are ∙ ap (λ (y : ℕ). bands_left values ++ replicate (long - y) 0) (sym (bands-length (whole_weight values) (weights_left values)));
    }

pub whole-lt : (values : List Float) (all : ℕ) → all ≡ whole_weight values → length values ≤ 64 → all < 2 ^ 32
whole-lt values all e h = omega (arith, e, whole-less values h)

pub fill-ready : (values : List Float) (all : ℕ) (p : Powers) (bands : List ℕ) → SumReady values bands → all ≡ whole_weight values → (all ≡ 0 → ⊥) → p ≡ powers_of all
    → FillReady values p bands
fill-ready values all p bands r e z f = record {
  few = r.few;
  some = subst (λ (y : ℕ). 0 < y) e (some-whole all z);
  powers = f ∙ ap powers_of e;
  long = r.long;
  blank = r.blank;
}
