-- `density_rows::pair_sums` meets its contract. The loop's invariant and its step are those of `RowSums`. Assumes nothing.
use Rattle.density_rows.specs.RowSums.{PairSums}
use Rattle.density_rows.proofs.pair_sums.Given as goal

abbrev pub invariant-loop-e : goal.invariant-loop-e
invariant-loop-e l = PairSums l.planes l.dim l.r l.m l.sums l.e
