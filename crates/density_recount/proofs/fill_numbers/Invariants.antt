-- `density_recount::fill_numbers` meets its contract. The loop's invariant and step are those of `RecountLaws`; here they meet the code.
-- Assumes nothing.
use Rattle.density_recount.specs.Recount.{Numbers}
use Rattle.density_recount.proofs.fill_numbers.Given as goal

abbrev pub invariant-loop-t : goal.invariant-loop-t
invariant-loop-t l = Numbers l.list l.n l.scale l.dim l.initial.table l.table l.t
