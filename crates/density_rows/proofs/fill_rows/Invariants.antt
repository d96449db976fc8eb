-- `density_rows::fill_rows` meets its contract. The loop's invariant and its step are those of `Filled`. Assumes nothing.
use Rattle.density_entries.specs.Filled.{LowerSteps}
use Rattle.density_rows.specs.RowSums.{plane_entry}
use Rattle.density_rows.proofs.fill_rows.Given as goal

abbrev pub invariant-loop-t : goal.invariant-loop-t
invariant-loop-t l = LowerSteps l.dim (plane_entry l.planes l.dim l.groups) l.initial.out l.out l.t
