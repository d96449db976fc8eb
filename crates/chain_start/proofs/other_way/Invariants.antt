use mathlib.Core.Path.{◌≡◌}
use Prim.Native.Nat.{◌+◌, ◌-◌, ◌*◌, ◌^◌}
use Rattle.chain_start.specs.Start.{reversed}
use Rattle.chain_start.proofs.other_way.Given as goal

abbrev pub invariant-loop-i : goal.invariant-loop-i
invariant-loop-i l = reversed l.n l.x ≡ l.r * 2 ^ (l.n - l.i) + reversed (l.n - l.i) l.v
