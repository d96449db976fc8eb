use mathlib.Core.Path.{ap₂, ◌∙◌}
use lib.Ieee as Ieee
use lib.Ieee.{Float, binary64}
use Rattle.complex.specs.declared.Complex.{Complex}
use Rattle.density_trace.proofs.TraceLaws.{trace-none, trace-more}
use Rattle.density_trace.proofs.trace_of.Goals as goal

pub loop-t-init : goal.loop-t-init
loop-t-init c = trace-none c.args.rho.now c.args.dim

pub loop-t-preserved : goal.loop-t-preserved
loop-t-preserved c = ap₂ (λ (x : Float) (w : Complex). Ieee.add binary64 x w.re) c.loop-t.invariant c.read_cell-trace.ensures ∙ trace-more c.args.rho.now c.args.dim c.loop-t.t
