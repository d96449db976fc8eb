-- `svd_columns::norms_marked` meets its contract. The invariant: the first j numbers are the norms of the first j columns, and the mark is theirs. Assumes nothing.
use mathlib.Core.Path.{◌≡◌}
use Prim.Native.Nat.{◌*◌}
use Rattle.numbers.specs.Root.{sqrt_of}
use Rattle.exact_roots.specs.Exact.{all_exact}
use Rattle.tables.specs.Tables.{filled}
use Rattle.complex.specs.Squares.{squares_to}
use Rattle.svd_columns.specs.Columns.{plane_from}
use Rattle.svd_columns.proofs.norms_marked.Given as goal

abbrev pub invariant-loop-j : goal.invariant-loop-j
invariant-loop-j l = record {
  values : l.s ≡ filled l.j (λ k. sqrt_of (squares_to (plane_from l.work (l.side * l.rows) (k * l.rows)) l.rows)) l.initial.s;
  mark : l.exact ≡ all_exact l.j (λ k. squares_to (plane_from l.work (l.side * l.rows) (k * l.rows)) l.rows);
}
