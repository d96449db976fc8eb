-- `cuts::fill_cut` meets its contract. The loop's invariant and step are those of `CutLaws`; here they meet the code.
-- Assumes nothing.
use Rattle.cuts.proofs.CutLaws.{Columns}
use Rattle.cuts.proofs.fill_cut.Given as goal

abbrev pub invariant-loop : goal.invariant-loop
invariant-loop l = Columns l.n l.row l.column l.rows l.columns l.state l.initial.out l.out l.counter l.at l.bits
