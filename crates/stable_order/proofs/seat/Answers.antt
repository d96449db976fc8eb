use native.Mathlib.Omega.{arith}
use Rattle.stable_order.specs.Places.{places_in}
use Rattle.stable_order.proofs.PlacesLaws.{length-places_in}
use Rattle.stable_order.proofs.OrderLaws.{seat-end, seat-here, seat-past}
use Rattle.stable_order.proofs.seat.Goals as goal

pub returns-then-values-y : goal.returns-then-values-y
returns-then-values-y c = let l = c.args.l.now in omega (arith, seat-here c.args.values.now c.args.x (places_in l) c.loop-j.j (omega (arith, length-places_in l, c.loop-j-test.true)) c.read_place-y.ensures.0 c.if-values-y.true)

pub loop-j-preserved : goal.loop-j-preserved
loop-j-preserved c = let l = c.args.l.now in omega (arith, seat-past c.args.values.now c.args.x (places_in l) c.loop-j.j (omega (arith, length-places_in l, c.loop-j-test.true)) c.read_place-y.ensures.0 c.if-values-y.false)

pub returns : goal.returns
returns c = let l = c.args.l.now in omega (arith, seat-end c.args.values.now c.args.x (places_in l) c.loop-j.j (omega (arith, length-places_in l, c.loop-j-test.false)))
