-- `scaled::scaled_sum_finite` meets its contract. The loop's invariant: the first sums hold the last eight numbers and the first 8 k, the others
-- 8 k numbers from `half` on. Assumes nothing.
use Prim.Native.Nat.{◌*◌}
use Rattle.scaled.proofs.EightLaws.{Holds}
use Rattle.scaled.proofs.scaled_sum_finite.Given as goal

abbrev pub invariant-loop-k : goal.invariant-loop-k
invariant-loop-k l = Holds l.s l.last 8 l.sums × Holds l.s 0 (8 * l.k) l.sums × Holds l.s l.half (8 * l.k) l.others
