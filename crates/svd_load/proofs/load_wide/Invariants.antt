-- `svd_load::load_wide` meets its contract. The invariant: the first col columns are those of the conjugate transpose. Assumes nothing.
use mathlib.Core.Path.{◌≡◌}
use Prim.Native.Nat.{◌*◌}
use Rattle.svd_load.specs.Loading.{conjugate_transposed, planes_to}
use Rattle.svd_load.proofs.load_wide.Given as goal

abbrev pub invariant-loop-col : goal.invariant-loop-col
invariant-loop-col l = l.work ≡ planes_to (l.m * l.n) (conjugate_transposed l.a l.m l.n) 0 (l.col * l.n) l.initial.work
