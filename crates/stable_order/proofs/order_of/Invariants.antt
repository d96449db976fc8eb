-- `stable_order::order_of` meets its contract. The invariant: the first k cells hold the order of the first k values. Assumes nothing.
use mathlib.Core.Path.{◌≡◌}
use lib.ListN.{take}
use Rattle.stable_order.specs.Places.{places_of}
use Rattle.stable_order.specs.Order.{order_to}
use Rattle.stable_order.proofs.order_of.Given as goal

abbrev pub invariant-loop-k : goal.invariant-loop-k
invariant-loop-k l = take l.k l.order ≡ places_of (order_to l.values l.k)
