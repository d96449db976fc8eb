use native.Mathlib.Omega.{arith}
use Rattle.chain_start.proofs.StartLaws.{halves, blocks-none, blocks-all}
use Rattle.chain_start.proofs.lay_state.Goals as goal

pub loop-y-init : goal.loop-y-init
loop-y-init c = blocks-none c.args.state.now _ _ _

pub returns : goal.returns
returns c = blocks-all c.args.state.now _ _ _ _ _ (halves _ c.requires.0).2 c.requires.2 (omega arith) c.loop-y.invariant
