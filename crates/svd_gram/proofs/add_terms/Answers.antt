use mathlib.Core.Path.{sym}
use Rattle.svd_gram.proofs.TermsLaws.{added_to-none, added_to-more}
use Rattle.svd_gram.proofs.add_terms.Goals as goal

pub loop-j-init : goal.loop-j-init
loop-j-init c = sym (added_to-none _ _)

pub loop-j-preserved : goal.loop-j-preserved
loop-j-preserved c = rw c.add.ensures (added_to-more _ _ _ c.loop-j.invariant)
