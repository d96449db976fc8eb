use mathlib.Core.Path.{refl}
use Rattle.complex.proofs.Loops.{stop}
use Rattle.qr_passes.specs.GramSchmidt.{qr_columns_to}
use Rattle.qr_passes.proofs.GramSchmidtLaws.{columns-none, columns-more}
use borrow.Author.Rules.{rules}
use Rattle.qr_factor.proofs.add_columns.Goals as goal

pub loop-j-init : goal.loop-j-init
loop-j-init c = (search rules, search rules, refl, refl, refl, columns-none _ _ _ _ _)

pub loop-j-preserved : goal.loop-j-preserved
loop-j-preserved c = (search rules, c.add_column-rank.ensures.within, search rules, search rules, search rules, columns-more _ _ _ _ _ _ c.loop-j.invariant.5 c.add_column-rank.ensures.is)

pub shape_of-q : goal.shape_of-q
shape_of-q c = c.loop-j.invariant.2

pub shape_of-r : goal.shape_of-r
shape_of-r c = c.loop-j.invariant.3

pub shape_of-v : goal.shape_of-v
shape_of-v c = c.loop-j.invariant.4

pub returns : goal.returns
returns c = stop (qr_columns_to _ _ _ _ _) c.loop-j.invariant.5 (search rules) (search rules)
