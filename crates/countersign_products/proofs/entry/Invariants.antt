-- `countersign_products::entry` meets its contract: the loop's invariant: the sum of the terms passed. Its weight is
-- at most 9 * 2^56 a term. Assumes nothing.
use Prim.Native.Nat.{◌*◌, ◌^◌}
use Rattle.countersign_sums.specs.Integers.{Alike}
use Rattle.countersign_products.specs.Products.{terms_of}
use Rattle.countersign_products.proofs.entry.Given as goal

abbrev pub invariant-loop-t : goal.invariant-loop-t
invariant-loop-t l = Alike l.sum (terms_of l.u l.s l.vt l.m l.n l.i l.j l.t) (l.t * (9 * 2 ^ 56))
