-- `pages::same_row` meets its contract: the loop's invariant is the row so far. Assumes nothing.
use mathlib.Core.Path.{◌≡◌}
use Rattle.density_entries.specs.Filled.{table_entry}
use Rattle.pages.specs.Blocks.{same_row}
use Rattle.pages.proofs.same_row.Given as goal

abbrev pub invariant-loop-u : goal.invariant-loop-u
invariant-loop-u l =
    l.yes ≡ same_row (table_entry l.n l.state l.rest l.groups l.offsets) (table_entry l.n l.matrix l.mask l.groups l.table) l.t l.u
