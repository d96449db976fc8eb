-- `density_diagonal::fill_blocks` meets its contract. The loop's invariant is that of `Filled`, its step that of `CornerRows`. Assumes nothing.
use Rattle.density_entries.specs.Filled.{table_entry, LowerSteps}
use Rattle.density_diagonal.proofs.fill_blocks.Given as goal

abbrev pub invariant-loop-t : goal.invariant-loop-t
invariant-loop-t l = LowerSteps l.dim (table_entry l.n l.state l.mask l.groups l.offsets) l.initial.out l.out l.t
