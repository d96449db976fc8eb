-- Where nothing is refused every number is on the grid. Assumes nothing.
use mathlib.Core.Path.{◌≡◌, refl}
use mathlib.Core.Bool.{true, false}
use mathlib.Core.List.{List, [], ◌∷◌}
use Prim.Native.Nat.{ℕ, zero, suc, ◌/◌, ◌<◌}
use native.Mathlib.Omega.{arith}
use lib.Ieee.{Float, nan}
use lib.ListN.{length, get_or}
use Rattle.std.proofs.Common.{Option, Some, None}
use Rattle.std.specs.Option.{is_some, is_none}
use Rattle.countersign_grid.specs.declared.Grid.{Grid}
use Rattle.answers.proofs.PaperLaws.{refuse-done, and_then-done}
use Rattle.countersign_grid.specs.Grid.{grid_of}
use Rattle.countersign_checks.specs.Checks.{countersign_sizes, countersign_lengths, countersign_components, off_grid, countersign_grid, countersign_tests}

on-grid : (per i : ℕ) (l : List Float) → (off_grid per i l).0 ≡ 0 → (j : ℕ) → j < length l → is_some (grid_of (get_or l j nan)) ≡ true
unfolding off_grid
on-grid per i [] e j h = absurd (omega arith)
on-grid per i (x ∷ l) e zero h = there (grid_of x) (refuse-done (is_none (grid_of x)) 10 (i / per) (off_grid per (suc i) l) e).0
  where
    there : (g : Option Grid) → is_none g ≡ false → is_some g ≡ true
    there None f = cc
    there (Some g) f = refl
on-grid per i (x ∷ l) e (suc j) h = on-grid per (suc i) l (refuse-done (is_none (grid_of x)) 10 (i / per) (off_grid per (suc i) l) e).1 j (omega arith)

abbrev OnGrid : List Float → Type 0
OnGrid l = (j : ℕ) → j < length l → is_some (grid_of (get_or l j nan)) ≡ true

pub all-on-grid : (a : List Float) (m n : ℕ) (u s vt : List Float) → (countersign_tests a m n u s vt).0 ≡ 0 → OnGrid a × OnGrid u × OnGrid s × OnGrid vt
unfolding countersign_tests countersign_grid
all-on-grid a m n u s vt e =
    let p = and_then-done (countersign_sizes m n) _ e in
    let q = and_then-done (countersign_lengths m n (length a) (length u) (length s) (length vt)) _ p.1 in
    let r = and_then-done (countersign_components a u s vt) _ q.1 in
    let w = and_then-done (off_grid 2 0 a) _ r.1 in
    let x = and_then-done (off_grid 2 0 u) _ w.1 in
    let y = and_then-done (off_grid 1 0 s) (off_grid 2 0 vt) x.1 in
    (on-grid 2 0 a w.0, on-grid 2 0 u x.0, on-grid 1 0 s y.0, on-grid 2 0 vt y.1)
