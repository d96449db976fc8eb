-- `spectra::load_cells` meets its contract. The loop's invariant: the cells below i are the matrix's. Assumes nothing.
use mathlib.Core.Path.{◌≡◌}
use Prim.Native.Nat.{◌-◌, ◌≤◌}
use lib.ListN.{length}
use Rattle.complex.specs.Cells.{cell_at, written}
use Rattle.spectra.proofs.load_cells.Given as goal

abbrev pub invariant-loop-i : goal.invariant-loop-i
invariant-loop-i l = (l.i ≤ l.c) × (length l.work ≡ length l.initial.work) × (l.work ≡ written l.i (cell_at l.a) l.initial.work)

abbrev pub decreases-loop-i : goal.decreases-loop-i
decreases-loop-i l = l.c - l.i
