-- `svd_load::unit` meets its contract. The invariant: the first k cells of the diagonal are 1, all else is +0.0. Assumes nothing.
use mathlib.Core.Path.{◌≡◌}
use Rattle.svd_load.specs.Loading.{unit_to}
use Rattle.svd_load.proofs.unit.Given as goal

abbrev pub invariant-loop-k : goal.invariant-loop-k
invariant-loop-k l = l.v ≡ unit_to l.n l.initial.v l.k
