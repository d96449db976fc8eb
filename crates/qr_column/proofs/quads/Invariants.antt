-- `qr_column::quads` meets its contract. The loop's invariant: the sums are these parts of the first k quads. Assumes nothing.
use mathlib.Core.Path.{◌≡◌}
use mathlib.Core.Bool.{not}
use lib.Dec.{eqb}
use Prim.Native.Nat.{◌*◌}
use Rattle.qr_basis.specs.Matrix.{matrix_of}
use Rattle.qr_column.specs.Dot.{quads_to}
use Rattle.qr_column.specs.DotParts.{parts}
use Rattle.qr_column.specs.Woven.{woven}
use Rattle.qr_column.proofs.quads.Given as goal

abbrev pub invariant-loop-k : goal.invariant-loop-k
invariant-loop-k g l = l.sums ≡ parts (not (eqb g.row.IMAGINARY 0)) (quads_to (matrix_of l.rows l.q) (l.i * l.rows) (woven l.rows l.v) l.k)
