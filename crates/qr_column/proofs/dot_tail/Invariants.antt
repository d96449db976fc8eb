-- `qr_column::dot_tail` meets its contract. The loop's invariant: the sums have the first k rows of the tail. Assumes nothing.
use mathlib.Core.Path.{◌≡◌}
use Prim.Native.Nat.{◌-◌, ◌*◌, ◌≤◌}
use Rattle.qr_basis.specs.Matrix.{matrix_of}
use Rattle.qr_column.specs.Dot.{tail_to}
use Rattle.qr_column.specs.Woven.{woven}
use Rattle.qr_column.proofs.dot_tail.Given as goal

abbrev pub invariant-loop-k : goal.invariant-loop-k
invariant-loop-k l = (l.k ≤ l.n) × (l.all ≡ tail_to (matrix_of l.rows l.q) (l.i * l.rows) (woven l.rows l.v) l.s l.initial.all l.k)

abbrev pub decreases-loop-k : goal.decreases-loop-k
decreases-loop-k l = l.n - l.k
