-- `countersign_grams::inners` meets its contract: the loop's invariant: the sum of the places passed. Its weight is
-- at most 9 * 2^38 a place. Assumes nothing.
use Prim.Native.Nat.{◌*◌, ◌^◌}
use Rattle.countersign_sums.specs.Integers.{Alike}
use Rattle.countersign_grams.specs.Grams.{inners_of}
use Rattle.countersign_grams.proofs.inners.Given as goal

abbrev pub invariant-loop-i : goal.invariant-loop-i
invariant-loop-i l = Alike l.sum (inners_of l.x l.len l.p l.q l.i) (l.i * (9 * 2 ^ 38))
