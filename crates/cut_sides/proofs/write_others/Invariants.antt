-- `cut_sides::write_others` meets its contract. The loop's invariant and steps are those of `SideLaws`; here they meet the code.
-- Assumes nothing.
use Rattle.cut_sides.proofs.SideLaws.{Risen}
use Rattle.cut_sides.proofs.write_others.Given as goal

abbrev pub invariant-loop-q : goal.invariant-loop-q
invariant-loop-q l = Risen l.list l.n l.initial.out l.q l.j l.out
