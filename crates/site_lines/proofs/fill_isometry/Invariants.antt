-- `site_lines::fill_isometry` meets its contract. The loop's invariant: the first rows of the site are written. Assumes nothing.
use mathlib.Core.Path.{◌≡◌}
use Prim.Native.Nat.{◌*◌}
use Rattle.complex.specs.Cells.{written}
use Rattle.site_lines.specs.Sources.{site_cell, isometry_cell}
use Rattle.site_lines.proofs.fill_isometry.Given as goal

abbrev pub invariant-loop-row : goal.invariant-loop-row
invariant-loop-row l = l.out ≡ written (l.row-counter * l.chi) (site_cell l.chi (isometry_cell l.columns l.stride)) l.initial.out
