-- `density_diagonal::corner_sums` meets its contract. The loop's invariant and its step are those of `Corners`. Assumes nothing.
use Rattle.density_diagonal.proofs.CornersLaws.{CornerSteps}
use Rattle.density_diagonal.proofs.corner_sums.Given as goal

abbrev pub invariant-loop : goal.invariant-loop
invariant-loop l = CornerSteps l.n l.state l.mask l.groups l.a0 l.a1 l.corner l.base l.counter
