-- `density_rows::gather_one` meets its contract. The loop's invariant and its step are those of `Gathered`. Assumes nothing.
use Rattle.density_rows.specs.Gathered.{OneSteps}
use Rattle.density_rows.proofs.gather_one.Given as goal

abbrev pub invariant-loop-t : goal.invariant-loop-t
invariant-loop-t l = OneSteps l.state l.offsets l.base l.at l.initial.planes l.planes l.t
