-- `density_entries::fill_lower` meets its contract. The loop's invariant and its step are those of `Filled`. Assumes nothing.
use Rattle.density_entries.specs.Filled.{table_entry, LowerSteps}
use Rattle.density_entries.proofs.fill_lower.Given as goal

abbrev pub invariant-loop-t : goal.invariant-loop-t
invariant-loop-t l = LowerSteps l.dim (table_entry l.n l.state l.mask l.groups l.offsets) l.initial.out l.out l.t
