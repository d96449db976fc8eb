-- `entropy_totals::totals_of` meets its contract: no weight is left, or the bands are filled. Assumes nothing.
use native.Mathlib.Omega.{arith}
use Rattle.entropy_sums.proofs.FillLaws.{some-weight}
use Rattle.entropy_totals.proofs.TotalsLaws.{totals-none, totals-some, whole-lt}
use Rattle.entropy_totals.proofs.totals_of.Goals as goal

pub returns-then-all-eq0 : goal.returns-then-all-eq0
returns-then-all-eq0 c = totals-none _ _ c.whole_weight-all.ensures c.if-all-eq0.true

pub powers_of-powers-requires : goal.powers_of-powers-requires
powers_of-powers-requires c = (some-weight _ c.if-all-eq0.false, whole-lt _ _ c.whole_weight-all.ensures c.requires)

pub overflow_mul-result : goal.overflow_mul-result
overflow_mul-result c = omega (arith, whole-lt _ _ c.whole_weight-all.ensures c.requires)

pub returns : goal.returns
returns c = totals-some _ _ _ _ _ c.whole_weight-all.ensures c.fill-s.ensures
