use mathlib.Core.Path.{sym, ap, ◌∙◌}
use Prim.Native.Nat.{◌+◌}
use native.Mathlib.Omega.{arith}
use lib.Seq.{length-take-le, take_all}
use Rattle.stable_order.specs.Places.{places_of}
use Rattle.stable_order.proofs.PlacesLaws.{small-in}
use Rattle.stable_order.specs.Order.{order_to}
use Rattle.stable_order.proofs.OrderLaws.{order-none, order-more, seat-le, length-order, are-places, seat-stored}
use borrow.Author.Rules.{rules}
use Rattle.stable_order.proofs.order_of.Goals as goal

pub loop-k-init : goal.loop-k-init
loop-k-init c = order-none _

pub slice_bounds-seat-end-in-loop-k : goal.slice_bounds-seat-end-in-loop-k
slice_bounds-seat-end-in-loop-k c = sym (length-take-le _ _ (omega arith))

pub seat-at-requires : goal.seat-at-requires
seat-at-requires c = (search rules, search rules, are-places _ _ _ c.loop-k.invariant (omega arith))

pub slice_bounds-insert_at-end-in-loop-k : goal.slice_bounds-insert_at-end-in-loop-k
slice_bounds-insert_at-end-in-loop-k c = sym (length-take-le _ _ (omega arith))

pub int_to_float-k : goal.int_to_float-k
int_to_float-k c = small-in _ (omega (arith, c.loop-k-test.true, c.requires.1))

pub insert_at-requires : goal.insert_at-requires
insert_at-requires c =
    omega (
      arith,
      c.seat-at.ensures ∙ seat-stored _ _ _ c.loop-k.invariant (omega arith),
      seat-le c.args.values.now c.loop-k.k (order_to c.args.values.now c.loop-k.k),
      length-order c.args.values.now c.loop-k.k,
      length-take-le (c.loop-k.k + 1) c.loop-k.order (omega arith),
    )

pub loop-k-preserved : goal.loop-k-preserved
loop-k-preserved c =
    order-more _ c.loop-k.order _ c.loop-k.k _
    (omega arith)
    (c.insert_at.auto.l ∙ length-take-le _ _ (omega arith))
    c.loop-k.invariant
    (c.seat-at.ensures ∙ seat-stored _ _ _ c.loop-k.invariant (omega arith))
    c.insert_at.ensures

pub returns : goal.returns
returns c =
    let l = c.loop-k in
    sym (take_all l.k l.order (omega arith)) ∙ l.invariant ∙ ap (λ k. places_of (order_to c.args.values.now k)) (omega arith)
