-- `cuts::fill_column` meets its contract. The loop's invariant and step are those of `CutLaws`; here they meet the code.
-- Assumes nothing.
use Rattle.cuts.proofs.CutLaws.{Column}
use Rattle.cuts.proofs.fill_column.Given as goal

abbrev pub invariant-loop-j : goal.invariant-loop-j
invariant-loop-j l = Column l.n l.row l.rows l.bits l.at l.state l.initial.out l.out l.j l.row_bits
