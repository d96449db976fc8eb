use mathlib.Core.Path.{ap, ◌∙◌}
use native.Mathlib.Omega.{arith}
use Rattle.complex.specs.declared.Complex.{Complex}
use Rattle.complex.specs.Arithmetic.{scaled}
use Rattle.complex.proofs.CellLaws.{written_none}
use Rattle.density_trace.specs.Trace.{scaled_cell}
use Rattle.density_trace.proofs.TraceLaws.{scale-step}
use Rattle.density_trace.proofs.scale_cells.Goals as goal

pub loop-k-init : goal.loop-k-init
loop-k-init c = written_none (scaled_cell c.args.rho.now c.args.scale) c.args.rho.now

pub loop-k-preserved : goal.loop-k-preserved
loop-k-preserved c = c.write_cell.ensures ∙ scale-step c.args.rho.now c.loop-k.rho c.args.scale c.loop-k.k _ c.loop-k.invariant (omega (arith, c.requires)) (c.scale.ensures ∙ ap (λ (w : Complex). scaled w c.args.scale) c.read_cell-z.ensures)
