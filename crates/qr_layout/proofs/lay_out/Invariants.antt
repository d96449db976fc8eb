-- `qr_layout::lay_out` meets its contract. The loop's invariant: the first i columns are cells, and the others are planes. Assumes nothing.
use Prim.Native.Nat.{◌-◌, ◌≤◌}
use mathlib.Core.Path.{◌≡◌}
use lib.ListN.{length}
use Rattle.qr_layout.proofs.LayingLaws.{laid_out}
use Rattle.qr_layout.proofs.lay_out.Given as goal

abbrev pub invariant-loop-i : goal.invariant-loop-i
invariant-loop-i l = (l.i ≤ l.cap) × (length l.q ≡ length l.initial.q) × (length l.v ≡ length l.initial.v) × (l.q ≡ laid_out l.rows l.initial.q l.i)

abbrev pub decreases-loop-i : goal.decreases-loop-i
decreases-loop-i l = l.cap - l.i
