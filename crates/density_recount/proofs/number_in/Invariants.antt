-- `density_recount::number_in` meets its contract. The loop's invariant and steps are those of `RecountLaws`; here they meet the code.
-- Assumes nothing.
use Rattle.density_recount.proofs.RecountLaws.{Packed}
use Rattle.density_recount.proofs.number_in.Given as goal

abbrev pub invariant-loop-q : goal.invariant-loop-q
invariant-loop-q l = Packed l.n l.mask l.x l.number l.q
