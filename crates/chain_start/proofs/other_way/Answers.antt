use native.Mathlib.Omega.{arith}
use Rattle.chain_start.proofs.StartLaws.{bits-few, bit-more, bits-end}
use Rattle.chain_start.proofs.other_way.Goals as goal

pub overflow_mul-r : goal.overflow_mul-r
overflow_mul-r c = omega (arith, bits-few _ _ _ _ _ c.requires c.loop-i.invariant)

pub overflow_add-r : goal.overflow_add-r
overflow_add-r c = omega (arith, bits-few _ _ _ _ _ c.requires c.loop-i.invariant)

pub loop-i-preserved : goal.loop-i-preserved
loop-i-preserved c = bit-more _ _ _ _ _ c.loop-i-test.true c.loop-i.invariant

pub returns : goal.returns
returns c = bits-end _ _ _ _ _ c.loop-i-test.false c.loop-i.invariant
