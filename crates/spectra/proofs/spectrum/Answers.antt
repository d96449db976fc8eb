-- `spectra::spectrum` meets its contract: the calls are the definition's steps, and work that is zeroed whole does not say what it held. Assumes nothing.
use mathlib.Core.Path.{◌∙◌}
use native.Mathlib.Omega.{arith}
use Rattle.spectra.proofs.OutcomeLaws.{spectrum-made, spectrum-sweeps, zeroed-other}
use Rattle.spectra.proofs.spectrum.Goals as goal

pub returns : goal.returns
returns c = (spectrum-made _ _ _ c.load_cells.ensures c.settle-sweeps.ensures c.write_diagonal.ensures, c.zero_first.ensures ∙ zeroed-other _ _ _ (omega (arith, c.settle-sweeps.auto.xs, c.load_cells.auto.work, c.requires.1)) (omega (arith, c.requires.1)), spectrum-sweeps _ _ c.load_cells.ensures c.settle-sweeps.ensures)
