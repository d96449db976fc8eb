-- `qr_passes::pass` meets its contract. The loop's invariant: v and r are what the first i basis columns make of them. Assumes nothing.
use mathlib.Core.Path.{◌≡◌}
use Prim.Native.Nat.{◌-◌, ◌≤◌}
use lib.ListN.{length}
use Rattle.qr_basis.specs.Matrix.{matrix_of}
use Rattle.qr_column.specs.Woven.{woven}
use Rattle.qr_passes.specs.GramSchmidt.{held, pass_to}
use Rattle.qr_passes.proofs.pass.Given as goal

abbrev pub invariant-loop-i : goal.invariant-loop-i
invariant-loop-i l = (l.i ≤ l.rank) × (length l.v ≡ length l.initial.v) × (length l.r ≡ length l.initial.r) × (held (woven l.rows l.v) l.r ≡ pass_to (matrix_of l.rows l.q) l.rows l.cols l.j (held (woven l.rows l.initial.v) l.initial.r) l.i)

abbrev pub decreases-loop-i : goal.decreases-loop-i
decreases-loop-i l = l.rank - l.i
