-- `svd_load::load_tall` meets its contract. The invariant: the cells below i are the matrix's. Assumes nothing.
use mathlib.Core.Path.{◌≡◌}
use Rattle.complex.specs.Cells.{cell_at}
use Rattle.svd_load.specs.Loading.{planes_to}
use Rattle.svd_load.proofs.load_tall.Given as goal

abbrev pub invariant-loop-i : goal.invariant-loop-i
invariant-loop-i l = l.work ≡ planes_to l.c (cell_at l.a) 0 l.i l.initial.work
