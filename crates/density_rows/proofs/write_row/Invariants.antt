-- `density_rows::write_row` meets its contract. The loop's invariant and its step are those of `RowSums`. Assumes nothing.
use Rattle.density_rows.specs.RowSums.{RowSumSteps}
use Rattle.density_rows.proofs.write_row.Given as goal

abbrev pub invariant-loop-u : goal.invariant-loop-u
invariant-loop-u l = RowSumSteps l.sums l.w l.dim l.r l.initial.out l.out l.u
