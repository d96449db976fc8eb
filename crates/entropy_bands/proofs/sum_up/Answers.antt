-- `entropy_bands::sum_up` meets its contract: no weight is left, or the bands are filled. Assumes nothing.
use native.Mathlib.Omega.{arith}
use Rattle.entropy_bands.proofs.BandsLaws.{sum-none, sum-some, some-whole, whole-lt, fill-ready}
use Rattle.entropy_bands.proofs.sum_up.Goals as goal

pub whole_weight-all-requires : goal.whole_weight-all-requires
whole_weight-all-requires c = c.requires.few

pub returns-then-all-eq0 : goal.returns-then-all-eq0
returns-then-all-eq0 c = sum-none _ _ _ _ c.requires c.whole_weight-all.ensures c.if-all-eq0.true

pub powers_of-powers-requires : goal.powers_of-powers-requires
powers_of-powers-requires c = (some-whole _ c.if-all-eq0.false, whole-lt _ _ c.whole_weight-all.ensures c.requires.few)

pub fill-s-requires : goal.fill-s-requires
fill-s-requires c = fill-ready _ _ _ _ c.requires c.whole_weight-all.ensures c.if-all-eq0.false c.powers_of-powers.ensures

pub overflow_mul-result : goal.overflow_mul-result
overflow_mul-result c = omega (arith, whole-lt _ _ c.whole_weight-all.ensures c.requires.few)

pub returns : goal.returns
returns c = sum-some _ _ _ _ _ _ c.whole_weight-all.ensures c.if-all-eq0.false c.fill-s.ensures
