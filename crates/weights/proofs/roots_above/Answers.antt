use native.Mathlib.Omega.{arith}
use Rattle.weights.proofs.WeightLaws.{roots-put, roots-pass, roots-all}
use Rattle.weights.proofs.roots_above.Goals as goal
use Rattle.weights.proofs.roots_above.Goals.{then-w-floor, else-w-floor}

pub loop-w-preserved : goal.loop-w-preserved
loop-w-preserved c =
    let l = c.loop-w in
    let h = c.loop-w-test.true in
    elim c.if-w-floor.branch [ then-w-floor w ↦ (omega (arith, w.count-is), rw (w.roots-is, w.count-is) (roots-put c.args.floor c.args.s.now l.roots l.w-index l.count h (omega (arith, h)) w.if-w-floor.true w.sqrt.ensures.is l.invariant.1)) | else-w-floor w ↦ (omega (arith, w.count-is), rw (w.roots-is, w.count-is) (roots-pass c.args.floor c.args.s.now l.roots l.w-index l.count h w.if-w-floor.false l.invariant.1)) ]

pub returns : goal.returns
returns c = roots-all _ _ _ _ _ c.loop-w-test.false (omega arith) c.loop-w.invariant.1
