use native.Mathlib.Omega.{arith}
use Rattle.chain_start.proofs.StartLaws.{power-few, power-least, turned_none, turned_more, turned-few, turned-all}
use Rattle.chain_start.proofs.turn_round.Goals as goal

pub loop-x-init : goal.loop-x-init
loop-x-init c = turned_none _ _ _

pub overflow_mul-backs : goal.overflow_mul-backs
overflow_mul-backs c = omega (arith, turned-few _ _ _ c.requires.0 (power-least _ c.bit-step.ensures c.requires.1) c.other_way.ensures)

pub bounds-backs-x : goal.bounds-backs-x
bounds-backs-x c = omega (arith, power-few _ c.requires.0)

pub loop-x-preserved : goal.loop-x-preserved
loop-x-preserved c = turned_more _ _ _ _ (omega (arith, power-few _ c.requires.0)) c.bit-step.ensures c.other_way.ensures c.loop-x.invariant

pub returns : goal.returns
returns c = (omega arith, turned-all _ _ _ (omega arith) c.loop-x.invariant)
