-- `density_entries::block_sums` meets its contract. The loop's invariant and its step are those of `Blocks`. Assumes nothing.
use Rattle.density_entries.proofs.BlocksLaws.{SumSteps}
use Rattle.density_entries.proofs.block_sums.Given as goal

abbrev pub invariant-loop : goal.invariant-loop
invariant-loop l = SumSteps l.n l.state l.mask l.groups l.a0 l.a1 l.b0 l.b1 l.block l.base l.counter
