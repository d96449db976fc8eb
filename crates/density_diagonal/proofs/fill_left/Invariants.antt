-- `density_diagonal::fill_left` meets its contract. The loop's invariant and its step are those of `LeftRows`. Assumes nothing.
use Rattle.density_entries.specs.Filled.{table_entry}
use Rattle.density_diagonal.specs.LeftRows.{LeftSteps}
use Rattle.density_diagonal.proofs.fill_left.Given as goal

abbrev pub invariant-loop-u : goal.invariant-loop-u
invariant-loop-u l = LeftSteps l.dim l.t (table_entry l.n l.state l.mask l.groups l.offsets) l.initial.out l.out l.u
