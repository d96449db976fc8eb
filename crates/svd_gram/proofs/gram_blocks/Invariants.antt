-- `svd_gram::gram_blocks` meets its contract. The loop's invariant: the sums are those of the first k blocks. Assumes nothing.
use mathlib.Core.Path.{◌≡◌}
use Prim.Native.Nat.{◌*◌, min}
use lib.ListN.{length}
use Rattle.svd_gram.specs.Gram.{gram_to}
use Rattle.svd_gram.proofs.gram_blocks.Given as goal

abbrev pub invariant-loop-k : goal.invariant-loop-k
invariant-loop-k l = (length l.terms ≡ 128) × (l.g ≡ gram_to l.xs l.c l.a l.b (min (32 * l.k) l.m))
