-- `density_rows::gather` meets its contract. The loop's invariant and its step are those of `Gathered`. Assumes nothing.
use Rattle.density_rows.proofs.GatheredLaws.{GatherSteps}
use Rattle.density_rows.proofs.gather.Given as goal

abbrev pub invariant-loop-e : goal.invariant-loop-e
invariant-loop-e l = GatherSteps l.n l.state l.mask l.offsets l.dim l.groups l.planes l.base l.e
