-- `slab_runs::lowest_run` meets its contract. The loop's invariant: `Scanned`. Assumes nothing.
use Rattle.slab_runs.proofs.RunLaws.{Scanned}
use Rattle.slab_runs.proofs.lowest_run.Given as goal

abbrev pub invariant-loop-c : goal.invariant-loop-c
invariant-loop-c l = Scanned l.k l.map l.run l.c
