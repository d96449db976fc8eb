-- `entropy_sums::whole_weight` meets its contract: the loop's invariant: what is done and what is left make the whole. Assumes nothing.
use Rattle.entropy_sums.proofs.SumLaws.{Summed}
use Rattle.entropy_sums.proofs.whole_weight.Given as goal

abbrev pub invariant-loop-x : goal.invariant-loop-x
invariant-loop-x l = Summed l.values l.sum l.x-index
