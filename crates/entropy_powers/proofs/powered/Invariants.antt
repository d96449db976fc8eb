-- `entropy_powers::powered` meets its contract: the loop's invariant: the squarings so far. Assumes nothing.
use Rattle.entropy_powers.proofs.SquaringLaws.{Squared}
use Rattle.entropy_powers.proofs.powered.Given as goal

abbrev pub invariant-loop : goal.invariant-loop
invariant-loop l = Squared l.y l.counter l.b
