-- `cut_planes::fill_column` meets its contract. The loop's invariant and step are those of `CutPlanesLaws`; here they meet the code.
-- Assumes nothing.
use Rattle.cut_planes.proofs.CutPlanesLaws.{Column}
use Rattle.cut_planes.proofs.fill_column.Given as goal

abbrev pub invariant-loop-j : goal.invariant-loop-j
invariant-loop-j l = Column l.n l.inner l.count l.bits l.at l.conjugated l.state l.initial.work l.work l.j l.inner_bits
