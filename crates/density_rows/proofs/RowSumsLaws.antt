-- Laws of what `specs/RowSums.antt` defines. Assumes nothing.
use mathlib.Core.Path.{◌≡◌, refl, sym, ap, ap₂, ◌∙◌}
use mathlib.Core.List.{List}
use mathlib.Core.Logic.{⊎_elim}
use Prim.Native.Nat.{ℕ, zero, suc, ◌+◌, ◌*◌, ◌≤◌, ◌<◌}
use native.Mathlib.Nat.{eq-or-lt_of_le}
use native.Mathlib.Numerals.{add-one}
use native.Mathlib.Omega.{arith}
use lib.Arith.{digits_lt}
use lib.Ieee.{Float, nan}
use lib.ListN.{length, get_or, drop, replicate, length-replicate, get_or-replicate}
use Rattle.complex.specs.declared.Complex.{Complex}
use Rattle.complex.specs.Arithmetic.{complex_of, sum_of, product, conjugate}
use Rattle.complex.specs.Cells.{set_cell}
use Rattle.complex.specs.Planes.{plane_at}
use Rattle.complex.specs.Zeros.{zero_float}
use Rattle.density_entries.specs.Entries.{total}
use Rattle.density_entries.proofs.CellChanges.{length-set_cell, cell_same, cell_other, past-cells}
use Rattle.density_entries.specs.Squares.{Square, entry_at}
use Rattle.density_entries.proofs.MirroredLaws.{cell_in, same_row}
use Rattle.density_entries.specs.Filled.{table_entry, PairSteps, LowerSteps}
use Rattle.density_rows.specs.Gathered.{amplitude_of, Gathered}
use Rattle.density_rows.specs.TwoRows.{TermSteps, Added}
use Rattle.density_rows.proofs.TwoRowsLaws.{added-same}
use Rattle.density_rows.specs.RowSums.{plane_entry, ZeroSums, SumsAre, PairSums, RowSumSteps}

total-below : (m : ℕ) (f g : ℕ → Complex) → ((e : ℕ) → e < m → f e ≡ g e) → total m f ≡ total m g
unfolding total
total-below zero f g h = refl
total-below (suc m) f g h = ap₂ sum_of (total-below m f g (λ e l. h e (omega arith))) (h m (omega arith))

-- AN ENTRY FROM THE PLANES IS THE ENTRY FROM THE STATE
plane-entry : (n : ℕ) (s : List Float) (mask : ℕ) (offsets : List ℕ) (dim m : ℕ) (planes : List Float) (t u : ℕ)
    → Gathered (amplitude_of n s mask offsets) dim planes m → t < dim → u < dim → plane_entry planes dim m t u ≡ table_entry n s mask m offsets t u
plane-entry n s mask offsets dim m planes t u g ht hu =
    total-below m _ _ (λ e h. ap₂ (λ (x y : Complex). product x (conjugate y)) (g.are e t h ht) (g.are e u h hu))

-- one more term
pub total-more : (m : ℕ) (f : ℕ → Complex) → sum_of (total m f) (f m) ≡ total (m + 1) f
unfolding total
total-more m f = ap (λ (x : ℕ). total x f) (sym (add-one m))

-- no term yet
pub total-none : (f : ℕ → Complex) → complex_of zero_float zero_float ≡ total 0 f
unfolding total
total-none f = refl

pub zero-sums : (sums : List Float) → sums ≡ replicate 256 zero_float → ZeroSums sums
unfolding plane_at
zero-sums sums e = record {
  long = ap length e ∙ length-replicate 256 zero_float;
  at = λ j h.
      ap₂ complex_of
      (ap (λ (x : List Float). get_or x j nan) e ∙ get_or-replicate 256 j zero_float nan (omega arith))
      (ap (λ (x : List Float). get_or x (128 + j) nan) e ∙ get_or-replicate 256 (128 + j) zero_float nan (omega arith));
}

module _ (planes : List Float) (dim r m : ℕ) where
  pub sums-begin : (sums : List Float) → ZeroSums sums → m ≤ 64 → PairSums planes dim r m sums 0
  sums-begin sums z h = record {
    long = z.long;
    upper = record { at = λ k g. z.at (0 + k) (omega arith) ∙ total-none _ };
    lower = record { at = λ k g. z.at (64 + k) (omega arith) ∙ total-none _ };
  }

  are-more : (row w : ℕ) (now end : List Float) (e : ℕ) (a : Complex) → SumsAre planes dim row w m now e
      → Added a (λ k. plane_at planes 4096 (e * dim + k)) w now end m → a ≡ plane_at planes 4096 (e * dim + row) → SumsAre planes dim row w m end (e + 1)
  are-more row w now end e a i t ea = record {
    at = λ k g. t.more k g ∙ added-same (i.at k g) ea refl ∙ total-more e (λ d. product (plane_at planes 4096 (d * dim + row)) (conjugate (plane_at planes 4096 (d * dim + k))));
  }

  pub sums-step : (now end : List Float) (e : ℕ) → PairSums planes dim r m now e → TermSteps planes (e * dim) r now end m → PairSums planes dim r m end (e + 1)
  sums-step now end e i t =
      let next : e * dim + r + 1 ≡ e * dim + (r + 1) = omega arith in
      record {
        long = t.long ∙ i.long;
        upper = are-more r 0 now end e _ i.upper t.upper refl;
        lower = are-more (r + 1) 64 now end e _ i.lower t.lower (ap (plane_at planes 4096) next);
      }

-- ---- a row written

module _ (sums : List Float) (w dim r : ℕ) (old : List Float) where
  pub row_step : (now end : List Float) (u m : ℕ) (z : Complex) → Square dim old → r < dim → m ≤ dim → RowSumSteps sums w dim r old now u → u < m
      → z ≡ plane_at sums 128 (w + u) → end ≡ set_cell now (r * dim + u) z → RowSumSteps sums w dim r old end (u + 1)
  row_step now end u m z p hr hm i h ez ee =
      let hu : u < dim = omega arith in
      record {
        long = ap length ee ∙ length-set_cell now (r * dim + u) z ∙ i.long;
        surplus = ap (drop (2 * (dim * dim))) ee ∙ past-cells now (dim * dim) (r * dim + u) z (digits_lt hr hu) ∙ i.surplus;
        row = record {
          at = λ k g.
              ap (λ (x : List Float). entry_at x dim r k) ee
              ∙ ⊎_elim
              (λ (e : k ≡ u).
              ap (λ (x : ℕ). entry_at (set_cell now (r * dim + u) z) dim r x) e
              ∙ cell_same now (r * dim + u) z (omega (arith, cell_in dim old r u p hr hu, i.long)) ∙ ez ∙ ap (λ (x : ℕ). plane_at sums 128 (w + x)) (sym e))
              (λ (q : k < u). cell_other now (r * dim + u) (r * dim + k) z (λ e. omega arith) ∙ i.row.at k q)
              (eq-or-lt_of_le (omega arith));
        };
        kept = λ r' c hc n.
            ap (λ (x : List Float). entry_at x dim r' c) ee
            ∙ cell_other now (r * dim + u) (r' * dim + c) z (λ e. n (same_row dim r' c r u hc hu e)) ∙ i.kept r' c hc n;
      }

-- both rows
pub pair-written : (planes : List Float) (groups dim t : ℕ) (sums old mid end : List Float) → 2 * t + 1 < dim → PairSums planes dim (2 * t) (2 * t + 2) sums groups
    → RowSumSteps sums 0 dim (2 * t) old mid (2 * t + 2) → RowSumSteps sums 64 dim (2 * t + 1) mid end (2 * t + 2)
    → PairSteps dim t (plane_entry planes dim groups) old end (t + 1)
pair-written planes groups dim t sums old mid end h s a b = record {
  within = omega arith;
  long = b.long ∙ a.long;
  surplus = b.surplus ∙ a.surplus;
  upper = record {
    at = λ c g. b.kept (2 * t) c (omega arith) (λ e. omega arith) ∙ a.row.at c (omega arith) ∙ s.upper.at c (omega arith);
  };
  lower = record { at = λ c g. b.row.at c (omega arith) ∙ s.lower.at c (omega arith) };
  kept = λ r c hr hc. b.kept r c hc (λ e. omega arith) ∙ a.kept r c hc (λ e. omega arith);
}

-- the lower half from the planes is the lower half from the state
pub lower-from-planes : (n : ℕ) (s : List Float) (mask : ℕ) (offsets : List ℕ) (dim m : ℕ) (planes old end : List Float) (t : ℕ)
    → Gathered (amplitude_of n s mask offsets) dim planes m → LowerSteps dim (plane_entry planes dim m) old end t → LowerSteps dim (table_entry n s mask m offsets) old end t
lower-from-planes n s mask offsets dim m planes old end t g i = record {
  within = i.within;
  long = i.long;
  surplus = i.surplus;
  rows = λ r c hr hc. i.rows r c hr hc ∙ plane-entry n s mask offsets dim m planes r c g (omega (arith, i.within)) (omega (arith, i.within));
}
