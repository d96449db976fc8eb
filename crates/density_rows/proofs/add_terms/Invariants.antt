-- `density_rows::add_terms` meets its contract. The loop's invariant and its step are those of `TwoRows`. Assumes nothing.
use Rattle.density_rows.specs.TwoRows.{TermSteps}
use Rattle.density_rows.proofs.add_terms.Given as goal

abbrev pub invariant-loop-u : goal.invariant-loop-u
invariant-loop-u l = TermSteps l.planes l.at l.r l.initial.sums l.sums l.u
