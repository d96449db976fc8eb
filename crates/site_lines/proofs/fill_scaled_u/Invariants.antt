-- `site_lines::fill_scaled_u` meets its contract. The loop's invariant: the first rows of the site are written. Assumes nothing.
use mathlib.Core.Path.{◌≡◌}
use Prim.Native.Nat.{◌*◌}
use Rattle.complex.specs.Cells.{written}
use Rattle.site_lines.specs.Sources.{site_cell, scaled_u_cell}
use Rattle.site_lines.proofs.fill_scaled_u.Given as goal

abbrev pub invariant-loop-row : goal.invariant-loop-row
invariant-loop-row l = l.out ≡ written (l.row-counter * l.chi) (site_cell l.chi (scaled_u_cell l.u l.s l.stride)) l.initial.out
