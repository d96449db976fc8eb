-- `chain_load::load_rows` meets its contract: the cells below i are the carried ones, conjugated. Assumes nothing.
use mathlib.Core.Path.{◌≡◌}
use Rattle.chain_load.specs.Carried.{conjugated_at}
use Rattle.svd_load.specs.Loading.{planes_to}
use Rattle.chain_load.proofs.load_rows.Given as goal

abbrev pub invariant-loop-i : goal.invariant-loop-i
invariant-loop-i l = l.work ≡ planes_to l.c (conjugated_at l.carried) 0 l.i l.initial.work
