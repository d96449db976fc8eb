use mathlib.Core.Path.{ap, ◌∙◌}
use native.Mathlib.Omega.{arith}
use Rattle.complex.specs.Arithmetic.{norm_sqr}
use Rattle.svd_gram.proofs.TermsLaws.{terms-more}
use Rattle.svd_gram.proofs.fill_terms.Goals as goal

pub loop-j-preserved : goal.loop-j-preserved
loop-j-preserved c =
    let i = c.loop-j.invariant in
    let p = c.read_plane-ap.ensures in
    let q = c.read_plane-aq.ensures in
    terms-more _ _ _ _ _ i.room (omega (arith, c.loop-j-test.true, c.requires.3)) _ _ _ _ i
    (c.norm_sqr.ensures ∙ ap norm_sqr p)
    (c.norm_sqr-in-loop-j.ensures ∙ ap norm_sqr q)
    (rw (c.conj.ensures, p, q) at c.mul-mixed.ensures)
