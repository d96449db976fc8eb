-- `pages::same_rows` meets its contract: the loop's invariant is the rows so far. Assumes nothing.
use mathlib.Core.Path.{◌≡◌}
use Rattle.density_entries.specs.Filled.{table_entry}
use Rattle.pages.specs.Blocks.{same_rows}
use Rattle.pages.proofs.same_rows.Given as goal

abbrev pub invariant-loop-t : goal.invariant-loop-t
invariant-loop-t l =
    l.yes ≡ same_rows (table_entry l.n l.state l.rest l.groups l.offsets) (table_entry l.n l.matrix l.mask l.groups l.table) l.t
