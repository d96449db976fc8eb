-- The loops of `normalize_trace`, and that only one outcome meets its contract. Assumes nothing.
use mathlib.Core.Path.{◌≡◌, refl, sym, ap, ap₂, ◌∙◌}
use mathlib.Core.Bool.{Bool, true, false, ◌&&◌}
use mathlib.Core.List.{List, ◌++◌}
use mathlib.Core.Logic.{⊎_elim}
use Prim.Native.Nat.{ℕ, zero, suc, ◌+◌, ◌-◌, ◌*◌, ◌≤◌, ◌<◌}
use native.Mathlib.Nat.{eq-or-lt_of_le}
use native.Mathlib.Numerals.{add-one}
use native.Mathlib.Omega.{arith}
use lib.Ieee as Ieee
use lib.Ieee.{Float, binary64}
use lib.ListN.{length, get_or, drop}
use lib.Seq.{get_or-append-add, get_or-drop}
use Rattle.numbers.specs.Numbers.{is_finite}
use Rattle.complex.specs.declared.Complex.{Complex}
use Rattle.complex.specs.Arithmetic.{complex_of, scaled}
use Rattle.complex.specs.Cells.{cell_at, set_cell, cells_of, written}
use Rattle.complex.proofs.CellLaws.{length-cells, written-more}
use Rattle.density_entries.specs.Squares.{entry_at}
use Rattle.density_trace.specs.Trace.{trace_to, scaled_cell, finite_cells}

-- a step of the trace's loop
pub trace-more : (s : List Float) (dim t : ℕ) → Ieee.add binary64 (trace_to s dim t) (entry_at s dim t t).re ≡ trace_to s dim (t + 1)
unfolding trace_to
trace-more s dim t = rw (add-one t)

pub trace-none : (s : List Float) (dim : ℕ) → Ieee.neg (Ieee.of_bits binary64 0) ≡ trace_to s dim 0
unfolding trace_to
trace-none s dim = refl

-- a step of the finite test, and its two ways out
module _ (f : ℕ → Complex) where
  pub finite-none : finite_cells 0 f ≡ true
  unfolding finite_cells
  finite-none = refl

  pub finite-more : (k : ℕ) → finite_cells k f ≡ true → (is_finite (f k).re && is_finite (f k).im) ≡ true → finite_cells (k + 1) f ≡ true
  unfolding finite_cells
  finite-more k e a = rw (add-one k, e, a)

  and-false : (x : Bool) → (x && false) ≡ false
  and-false true = refl
  and-false false = refl

  finite-here : (k : ℕ) → (is_finite (f k).re && is_finite (f k).im) ≡ false → finite_cells (suc k) f ≡ false
  unfolding finite_cells
  finite-here k e = rw (e, and-false (finite_cells k f))

  more : (m : ℕ) → finite_cells m f ≡ false → finite_cells (suc m) f ≡ false
  unfolding finite_cells
  more m e = rw e

  -- a cell that is not finite decides
  pub finite-stop : (m k : ℕ) → k < m → (is_finite (f k).re && is_finite (f k).im) ≡ false → finite_cells m f ≡ false
  finite-stop zero k h e = absurd (omega arith)
  finite-stop (suc m) k h e =
      ⊎_elim
      (λ (q : k ≡ m). finite-here m (ap (λ (x : ℕ). is_finite (f x).re && is_finite (f x).im) (sym q) ∙ e))
      (λ (g : k < m). more m (finite-stop m k g e))
      (eq-or-lt_of_le (omega arith))

-- the cells that the scaling has not reached
number_past : (m i : ℕ) (f : ℕ → Complex) (old : List Float) → 2 * m ≤ i → get_or (written m f old) i Ieee.nan ≡ get_or old i Ieee.nan
unfolding written
number_past m i f old h =
    let n = i - 2 * m in
    let e : i ≡ length (cells_of m f) + n = omega (arith, length-cells m f) in
    let g : 2 * m + n ≡ i = omega arith in
    ap (λ (x : ℕ). get_or (cells_of m f ++ drop (2 * m) old) x Ieee.nan) e ∙ get_or-append-add (cells_of m f) (drop (2 * m) old) n Ieee.nan
    ∙ get_or-drop (2 * m) old n Ieee.nan ∙ ap (λ (x : ℕ). get_or old x Ieee.nan) g

cell-past : (m : ℕ) (f : ℕ → Complex) (old : List Float) → cell_at (written m f old) m ≡ cell_at old m
cell-past m f old = ap₂ complex_of (number_past m (2 * m) f old (omega arith)) (number_past m (2 * m + 1) f old (omega arith))

-- a step of the scaling
pub scale-step : (s now : List Float) (x : Float) (k : ℕ) (z : Complex) → now ≡ written k (scaled_cell s x) s → 2 * k + 1 < length s → z ≡ scaled (cell_at now k) x
    → set_cell now k z ≡ written (k + 1) (scaled_cell s x) s
scale-step s now x k z en h ez =
    ap₂ (λ (l : List Float) (w : Complex). set_cell l k w) en
    (ez ∙ ap (λ (w : Complex). scaled w x) (ap (λ (l : List Float). cell_at l k) en ∙ cell-past k (scaled_cell s x) s))
    ∙ written-more k (scaled_cell s x) s h
