-- `site_lines::fill_scaled_vt` meets its contract. The loop's invariant: the first rows of the site are written. Assumes nothing.
use mathlib.Core.Path.{◌≡◌}
use Prim.Native.Nat.{◌*◌}
use Rattle.complex.specs.Cells.{written}
use Rattle.site_lines.specs.Sources.{site_cell, scaled_vt_cell}
use Rattle.site_lines.proofs.fill_scaled_vt.Given as goal

abbrev pub invariant-loop-gamma : goal.invariant-loop-gamma
invariant-loop-gamma l = l.out ≡ written (l.gamma-counter * l.width) (site_cell l.width (scaled_vt_cell l.s l.vt l.stride)) l.initial.out
