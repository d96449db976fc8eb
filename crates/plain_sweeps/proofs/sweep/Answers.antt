-- `plain_sweeps::sweep` meets its contract: a clean trial, or the sweeps of what was kept. Assumes nothing.
use mathlib.Core.Path.{refl, sym, ◌∙◌}
use native.Mathlib.Omega.{arith}
use lib.Seq.{length-take-le}
use Rattle.plain_sweeps.proofs.TrialLaws.{swept_same}
use Rattle.plain_sweeps.proofs.sweep.Goals as goal

pub slice_bounds-promising-end-2 : goal.slice_bounds-promising-end-2
slice_bounds-promising-end-2 c = sym (length-take-le _ _ (omega (arith, c.requires.scratch-fits)))

pub returns : goal.returns
returns c = swept_same (c.copy_back.ensures ∙ c.in_default.ensures.kept refl) c.exactly-2.ensures
