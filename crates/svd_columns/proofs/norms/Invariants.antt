-- `svd_columns::norms` meets its contract. The invariant: the first j numbers are the norms of the first j columns. Assumes nothing.
use mathlib.Core.Path.{◌≡◌}
use Prim.Native.Nat.{◌*◌}
use Rattle.numbers.specs.Root.{sqrt_of}
use Rattle.tables.specs.Tables.{filled}
use Rattle.complex.specs.Squares.{squares_to}
use Rattle.svd_columns.specs.Columns.{plane_from}
use Rattle.svd_columns.proofs.norms.Given as goal

abbrev pub invariant-loop-j : goal.invariant-loop-j
invariant-loop-j l = l.s ≡ filled l.j (λ k. sqrt_of (squares_to (plane_from l.work (l.side * l.rows) (k * l.rows)) l.rows)) l.initial.s
