-- `chain_start::turn_round` meets its contract. The invariant: the first x numbers are turned round. Assumes nothing.
use Rattle.chain_start.specs.Start.{TurnedTo}
use Rattle.chain_start.proofs.turn_round.Given as goal

abbrev pub invariant-loop-x : goal.invariant-loop-x
invariant-loop-x l = TurnedTo l.low l.high l.x l.backs
