-- `svd_load::load_row` meets its contract. The invariant: the first r cells of the column are the conjugates of the row's. Assumes nothing.
use mathlib.Core.Path.{◌≡◌}
use Prim.Native.Nat.{◌*◌}
use Rattle.svd_load.specs.Loading.{conjugate_transposed, planes_to}
use Rattle.svd_load.proofs.load_row.Given as goal

abbrev pub invariant-loop-r : goal.invariant-loop-r
invariant-loop-r l = l.work ≡ planes_to (l.m * l.n) (conjugate_transposed l.a l.m l.n) (l.col * l.n) l.r l.initial.work
