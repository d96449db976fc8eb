-- `stable_order::insert_at` meets its contract. The invariant: putting what is held at i gives the same list as the whole call. Assumes nothing.
use mathlib.Core.Path.{◌≡◌}
use Rattle.stable_order.specs.Push.{push_at}
use Rattle.stable_order.proofs.insert_at.Given as goal

abbrev pub invariant-loop-i : goal.invariant-loop-i
invariant-loop-i l = push_at l.l l.i l.hold ≡ push_at l.initial.l l.at l.x
