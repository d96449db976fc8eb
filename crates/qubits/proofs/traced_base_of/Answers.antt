use mathlib.Core.Path.{sym, ◌∙◌}
use Prim.Native.Nat.{◌<◌}
use native.Mathlib.Omega.{arith}
use Rattle.qubits.proofs.SpreadLaws.{insert-begin, insert-step, insert-past, insert-end, insert-room}
use Rattle.qubits.proofs.OtherLaws.{others-length, small-index}
use Rattle.qubits.proofs.traced_base_of.Goals as goal
use Rattle.qubits.proofs.traced_base_of.Goals.{then-stands_in, else-stands_in}

pub loop-q-init : goal.loop-q-init
loop-q-init c = insert-begin _ _ _

pub insert_zero_bit-base-requires : goal.insert_zero_bit-base-requires
insert_zero_bit-base-requires c =
    let h = c.loop-q-test.true in
    let s : c.args.e < 4096 = small-index _ _ _ c.requires.listed.small c.requires.e_bound in
    (insert-room _ _ _ _ _ c.loop-q.invariant h c.requires.listed.small s, omega (arith, h, c.requires.listed.small))

pub loop-q-preserved : goal.loop-q-preserved
loop-q-preserved c =
    let i = c.loop-q.invariant in
    let h = c.loop-q-test.true in
    let s = c.stands_in.ensures in
    elim c.if-stands_in.branch [
      | then-stands_in w ↦ rw (w.base-is ∙ w.insert_zero_bit-base.ensures) (insert-step _ _ _ _ _ i h (sym s ∙ w.if-stands_in.true))
      | else-stands_in w ↦ rw w.base-is (insert-past _ _ _ _ _ i h (sym s ∙ w.if-stands_in.false))
    ]

pub returns : goal.returns
returns c =
    insert-end _ _ _ _ _ c.loop-q.invariant c.loop-q-test.false (rw (others-length _ _ c.requires.listed) c.requires.e_bound)
