-- `entropy_sums::fill` meets its contract: the loop's invariant: what is done and what is left make the whole. Assumes nothing.
use lib.ListN.{length}
use Rattle.entropy_sums.proofs.FillLaws.{Filling}
use Rattle.entropy_sums.proofs.fill.Given as goal

abbrev pub invariant-loop-x : goal.invariant-loop-x
invariant-loop-x l = Filling l.values (length l.initial.bands) l.s l.x-index l.bands
