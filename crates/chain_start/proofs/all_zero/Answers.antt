-- `chain_start::all_zero` meets its contract. Assumes nothing.
use mathlib.Core.Path.{refl, sym, ◌∙◌}
use Prim.Native.Nat.{◌-◌}
use native.Mathlib.Omega.{arith}
use Rattle.chain_start.proofs.StartLaws.{zero-bad, zero-good, zero-end}
use Rattle.chain_start.proofs.all_zero.Goals as goal

pub loop-k-init : goal.loop-k-init
loop-k-init c = (omega arith, refl)

pub loop-k-preserved : goal.loop-k-preserved
loop-k-preserved c = (omega (arith, c.loop-k-test.true), c.loop-k.invariant.1 ∙ zero-good _ _ c.loop-k-test.true c.if-x.true)

pub returns-else-x : goal.returns-else-x
returns-else-x c = sym (c.loop-k.invariant.1 ∙ zero-bad _ _ c.loop-k-test.true c.if-x.false)

pub returns : goal.returns
returns c = sym (c.loop-k.invariant.1 ∙ zero-end _ _ c.loop-k-test.false)
