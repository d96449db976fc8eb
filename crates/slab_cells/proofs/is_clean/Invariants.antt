-- `slab_cells::is_clean` meets its contract. The loop's invariant: the first c cells are held or +0.0. Assumes
-- nothing.
use mathlib.Core.Path.{◌≡◌}
use mathlib.Core.Bool.{true}
use Rattle.slab_cells.proofs.CellLaws.{clean_to}
use Rattle.slab_cells.proofs.is_clean.Given as goal

abbrev pub invariant-loop-c : goal.invariant-loop-c
invariant-loop-c l = clean_to l.map l.cells l.c ≡ true
