-- `plain_sweeps::attempt` meets its contract: both tests say that every number is finite and no zero, or the work matrix stands behind. Assumes nothing.
use mathlib.Core.Path.{sym, ◌∙◌}
use native.Mathlib.Omega.{arith}
use lib.Seq.{length-take-le}
use Rattle.plain_sweeps.proofs.TrialLaws.{tried-clean, tried-unclean}
use borrow.Author.Rules.{rules}
use Rattle.plain_sweeps.proofs.attempt.Goals as goal

pub slice_bounds-from_unit-end-2 : goal.slice_bounds-from_unit-end-2
slice_bounds-from_unit-end-2 c = sym (length-take-le _ _ (omega (arith, c.requires.scratch-fits, c.copy_behind.auto.s)))

pub from_unit-sweeps-requires : goal.from_unit-sweeps-requires
from_unit-sweeps-requires c = record { work = length-take-le _ _ (omega (arith, c.requires.scratch-fits, c.copy_behind.auto.s)); v = c.requires.v-is; columns = c.requires.columns; cells = c.requires.cells }

pub slice_bounds-all_clean-end-2 : goal.slice_bounds-all_clean-end-2
slice_bounds-all_clean-end-2 c = sym (length-take-le _ _ (search rules))

pub returns-then-all_clean-2 : goal.returns-then-all_clean-2
returns-then-all_clean-2 c =
    tried-clean _ _ _ _ c.from_unit-sweeps.new.work _ _ (length-take-le _ _ (omega (arith, c.requires.scratch-fits, c.copy_behind.auto.s))) c.copy_behind.ensures (c.from_unit-sweeps.auto.work ∙ length-take-le _ _ (omega (arith, c.requires.scratch-fits, c.copy_behind.auto.s))) c.from_unit-sweeps.ensures (c.all_clean.ensures c.if-all_clean.true) (c.all_clean-then-all_clean.ensures c.if-all_clean-2.true)

pub returns : goal.returns
returns c = tried-unclean _ _ _ _ c.from_unit-sweeps.new.work _ c.copy_behind.ensures (c.from_unit-sweeps.auto.work ∙ length-take-le _ _ (omega (arith, c.requires.scratch-fits, c.copy_behind.auto.s)))
