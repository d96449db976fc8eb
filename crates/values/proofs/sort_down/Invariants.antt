-- `values::sort_down` meets its contract. The loop's invariant: the first k places hold the first k values, sorted. Assumes nothing.
use mathlib.Core.Path.{◌≡◌}
use Prim.Native.Nat.{◌≤◌, ◌-◌}
use lib.ListN.{length, take}
use Rattle.values.specs.Sort.{sort_to}
use Rattle.values.proofs.sort_down.Given as goal

abbrev pub invariant-loop-k : goal.invariant-loop-k
invariant-loop-k l = (l.k-end ≡ length l.values) × (l.k ≤ l.k-end) × (length l.sorted ≡ length l.values) × (take l.k l.sorted ≡ sort_to l.values l.k)

abbrev pub decreases-loop-k : goal.decreases-loop-k
decreases-loop-k l = l.k-end - l.k
