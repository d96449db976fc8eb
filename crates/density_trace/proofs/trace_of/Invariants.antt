-- `density_trace::trace_of` meets its contract. The loop's invariant: the sum so far. Assumes nothing.
use mathlib.Core.Path.{◌≡◌}
use Rattle.density_trace.specs.Trace.{trace_to}
use Rattle.density_trace.proofs.trace_of.Given as goal

abbrev pub invariant-loop-t : goal.invariant-loop-t
invariant-loop-t l = l.trace ≡ trace_to l.rho l.dim l.t
