-- `countersign_scans::value_fits` meets its contract: the first value has none before it. Assumes nothing.
use mathlib.Core.Path.{◌∙◌}
use borrow.Author.Tests.{eq-eqb}
use Rattle.countersign_scans.proofs.ScanLaws.{fits-first, fits-later, fits_below, value-fits-sum, value-fits-zero}
use Rattle.countersign_scans.proofs.value_fits.Goals as goal

pub at_most-requires : goal.at_most-requires
at_most-requires c = value-fits-zero _ _ c.value_at-x.ensures

pub at_most-requires-else-i-eq0 : goal.at_most-requires-else-i-eq0
at_most-requires-else-i-eq0 c = value-fits-sum _ _ _ c.value_at-x.ensures c.value_at.ensures

pub returns-then-i-eq0 : goal.returns-then-i-eq0
returns-then-i-eq0 c = eq-eqb _ _ c.if-i-eq0.true ∙ fits-first _ _ c.if-i-eq0.true c.value_at-x.ensures c.at_most.ensures c.if-at_most.true

pub returns-else-i-eq0 : goal.returns-else-i-eq0
returns-else-i-eq0 c = fits-later _ _ c.if-i-eq0.false c.value_at-x.ensures c.at_most.ensures c.if-at_most.true c.value_at.ensures c.at_most-else-i-eq0.ensures

pub returns-else-at_most : goal.returns-else-at_most
returns-else-at_most c = c.if-at_most.false ∙ fits_below _ _ c.value_at-x.ensures c.at_most.ensures c.if-at_most.false
