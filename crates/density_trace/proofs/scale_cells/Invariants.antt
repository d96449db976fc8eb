-- `density_trace::scale_cells` meets its contract. The loop's invariant: the cells passed are scaled. Assumes nothing.
use mathlib.Core.Path.{◌≡◌}
use Rattle.complex.specs.Cells.{written}
use Rattle.density_trace.specs.Trace.{scaled_cell}
use Rattle.density_trace.proofs.scale_cells.Given as goal

abbrev pub invariant-loop-k : goal.invariant-loop-k
invariant-loop-k l = l.rho ≡ written l.k (scaled_cell l.initial.rho l.scale) l.initial.rho
