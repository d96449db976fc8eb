-- `spectra::write_diagonal` meets its contract. The loop's invariant: the first i entries are written. Assumes nothing.
use mathlib.Core.Path.{◌≡◌}
use Prim.Native.Nat.{◌*◌, ◌-◌, ◌≤◌}
use lib.ListN.{length}
use Rattle.eigen_pair.specs.CellPlanes.{as_planes}
use Rattle.eigen_sweeps.specs.Sweeping.{diagonal}
use Rattle.tables.specs.Tables.{filled}
use Rattle.spectra.proofs.write_diagonal.Given as goal

abbrev pub invariant-loop-i : goal.invariant-loop-i
invariant-loop-i l = (l.i ≤ l.n) × (length l.out ≡ length l.initial.out) × (l.out ≡ filled l.i (diagonal (as_planes (l.n * l.n) l.work) l.n) l.initial.out)

abbrev pub decreases-loop-i : goal.decreases-loop-i
decreases-loop-i l = l.n - l.i
