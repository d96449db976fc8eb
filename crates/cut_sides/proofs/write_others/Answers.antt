use mathlib.Core.Path.{sym, ◌∙◌}
use Prim.Native.Nat.{◌<◌}
use native.Mathlib.Omega.{arith}
use lib.ListN.{length}
use Rattle.cut_sides.proofs.SideLaws.{risen-begin, risen-in, risen-one, risen-none}
use Rattle.cut_sides.proofs.write_others.Goals as goal
use Rattle.cut_sides.proofs.write_others.Goals.{then-not-stands_in, else-not-stands_in}

pub loop-q-init : goal.loop-q-init
loop-q-init c = risen-begin _ _ _

pub bounds-out-j : goal.bounds-out-j
bounds-out-j c =
    let inside : c.loop-q.j < length c.args.out.now = risen-in _ _ _ _ _ _ c.loop-q.invariant c.loop-q-test.true c.requires.1 (sym c.stands_in.ensures ∙ c.if-not-stands_in.true) in
    omega arith

pub loop-q-preserved : goal.loop-q-preserved
loop-q-preserved c =
    let t = c.loop-q-test.true in
    let s = c.stands_in.ensures in
    elim c.if-not-stands_in.branch [
      | then-not-stands_in w ↦ rw (w.out-is, w.j-is) (risen-one _ _ _ _ _ _ c.loop-q.invariant t c.requires.1 (sym s ∙ w.if-not-stands_in.true))
      | else-not-stands_in w ↦ rw (w.out-is, w.j-is) (risen-none _ _ _ _ _ _ c.loop-q.invariant t (sym s ∙ w.if-not-stands_in.false))
    ]
