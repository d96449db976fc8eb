-- `countersign::read_and_judge` meets its contract: each factor's numbers stand in its room. Assumes nothing.
use borrow.Author.Rules.{rules}
use Rattle.countersign_shifted.proofs.ShiftedLaws.{made_list}
use Rattle.countersign.proofs.read_and_judge.Goals as goal

pub judge-requires-clause-read : goal.judge-requires-clause-read
judge-requires-clause-read g c = record { u-read = made_list _ _ _ (search rules) c.shift.ensures; s_read = made_list _ _ _ (search rules) c.shift-2.ensures; vt-read = made_list _ _ _ (search rules) c.shift-3.ensures }
