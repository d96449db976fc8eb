-- `density_entries::mirror_column` meets its contract. The loop's invariant and its step are those of `Mirrored`. Assumes nothing.
use Rattle.density_entries.specs.Mirrored.{ColumnSteps}
use Rattle.density_entries.proofs.mirror_column.Given as goal

abbrev pub invariant-loop-u : goal.invariant-loop-u
invariant-loop-u l = ColumnSteps l.dim l.t l.initial.rho l.rho l.u
