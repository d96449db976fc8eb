use mathlib.Core.Path.{refl}
use native.Mathlib.Omega.{arith}
use Rattle.complex.proofs.Loops.{stop}
use Rattle.complex.specs.Cells.{cell_at, written}
use Rattle.complex.proofs.CellLaws.{written_none, written-more}
use Rattle.spectra.proofs.OutcomeLaws.{loaded}
use borrow.Author.Rules.{rules}
use Rattle.spectra.proofs.load_cells.Goals as goal

pub loop-i-init : goal.loop-i-init
loop-i-init c = (search rules, refl, written_none _ _)

pub loop-i-preserved : goal.loop-i-preserved
loop-i-preserved c =
    let l = c.before.before.before.before.before.before in
    (search rules, search rules, rw (c.write_cell.ensures, c.read_cell.ensures, c.loop-i.invariant.2) (written-more _ _ _ (omega (arith, c.requires.1, c.loop-i-test.true))))

pub returns : goal.returns
returns c =
    let a = c.args in
    loaded _ _ _ (stop (λ k. written k (cell_at a.a.now) a.work.now) c.loop-i.invariant.2 (search rules) (search rules))
