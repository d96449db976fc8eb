-- `stable_order::seat` meets its contract. The invariant: the places passed and the seat among the rest make the seat among all. Assumes nothing.
use mathlib.Core.Path.{◌≡◌}
use Prim.Native.Nat.{◌+◌}
use lib.ListN.{drop}
use Rattle.stable_order.specs.Places.{places_in}
use Rattle.stable_order.specs.Order.{seat_of}
use Rattle.stable_order.proofs.seat.Given as goal

abbrev pub invariant-loop-j : goal.invariant-loop-j
invariant-loop-j l = l.j + seat_of l.values l.x (drop l.j (places_in l.l)) ≡ seat_of l.values l.x (places_in l.l)
