-- `svd_gram::gram_rows` meets its contract. The loop's invariant: the sums are those of the rows below r. Assumes nothing.
use mathlib.Core.Path.{◌≡◌}
use Rattle.svd_gram.specs.Gram.{gram_to}
use Rattle.svd_gram.proofs.gram_rows.Given as goal

abbrev pub invariant-loop-r : goal.invariant-loop-r
invariant-loop-r l = l.g ≡ gram_to l.xs l.c l.a l.b l.r
