-- `lots::read_file` meets its contract. Assumes nothing.
use Rattle.lots.proofs.LotLaws.{Copied}
use Rattle.lots.proofs.read_file.Given as goal

abbrev pub invariant-loop-i : goal.invariant-loop-i
invariant-loop-i l = Copied l.lot l.from l.size l.many l.room l.i
