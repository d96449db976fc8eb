-- `qr_factor::add_columns` meets its contract. The loop's invariant: q, r and the rank are those of the first j columns. Assumes nothing.
use mathlib.Core.Path.{◌≡◌}
use Prim.Native.Nat.{◌-◌, ◌≤◌}
use lib.ListN.{length}
use Rattle.qr_basis.specs.Matrix.{matrix_of}
use Rattle.qr_passes.specs.GramSchmidt.{factors, qr_columns_to}
use Rattle.qr_factor.proofs.add_columns.Given as goal

abbrev pub invariant-loop-j : goal.invariant-loop-j
invariant-loop-j l = (l.j ≤ l.cols) × (l.rank ≤ l.cap) × (length l.q ≡ length l.initial.q) × (length l.r ≡ length l.initial.r) × (length l.v ≡ length l.initial.v) × (factors (matrix_of l.rows l.q) l.r l.rank ≡ qr_columns_to l.a l.rows l.cols l.cap (factors (matrix_of l.rows l.initial.q) l.initial.r 0) l.j)

abbrev pub decreases-loop-j : goal.decreases-loop-j
decreases-loop-j l = l.cols - l.j
