use Rattle.slab_sites.proofs.SiteLaws.{find-begin, find-hit, find-miss, find-end}
use borrow.Author.Rules.{rules}
use native.Mathlib.Omega.{arith}
use Rattle.slab_sites.proofs.find_site.Goals as goal

pub loop-i-init : goal.loop-i-init
loop-i-init c = find-begin _ _ _

pub returns-then-site_at-number : goal.returns-then-site_at-number
returns-then-site_at-number c =
    let e = find-hit _ _ _ _ c.loop-i.invariant c.loop-i-test.true c.site_at.ensures c.if-site_at-number.true in
    (omega (arith, e, c.loop-i-test.true), e)

pub loop-i-preserved : goal.loop-i-preserved
loop-i-preserved c = find-miss _ _ _ _ c.loop-i.invariant c.loop-i-test.true c.site_at.ensures c.if-site_at-number.false

pub returns : goal.returns
returns c = λ h. let e = find-end _ _ _ _ c.loop-i.invariant (search rules) (search rules) in omega (arith, h, e)
