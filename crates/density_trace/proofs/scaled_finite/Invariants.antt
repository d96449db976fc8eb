-- `density_trace::scaled_finite` meets its contract. The loop's invariant: the cells passed are finite. Assumes nothing.
use mathlib.Core.Path.{◌≡◌}
use mathlib.Core.Bool.{true}
use Rattle.density_trace.specs.Trace.{scaled_cell, finite_cells}
use Rattle.density_trace.proofs.scaled_finite.Given as goal

abbrev pub invariant-loop-k : goal.invariant-loop-k
invariant-loop-k l = finite_cells l.k (scaled_cell l.rho l.scale) ≡ true
