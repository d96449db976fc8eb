-- `density_entries::fill_row_pair` meets its contract. The loop's invariant and its step are those of `Filled`. Assumes nothing.
use Rattle.density_entries.specs.Filled.{table_entry, PairSteps}
use Rattle.density_entries.proofs.fill_row_pair.Given as goal

abbrev pub invariant-loop-u : goal.invariant-loop-u
invariant-loop-u l = PairSteps l.dim l.t (table_entry l.n l.state l.mask l.groups l.offsets) l.initial.out l.out l.u
