use mathlib.Core.Path.{refl, sym, ◌∙◌}
use native.Mathlib.Omega.{arith}
use Rattle.pages.proofs.AgreeLaws.{same-short, same_step, same_stop, same_end}
use Rattle.pages.proofs.same_floats.Goals as goal

pub returns-then-a-b : goal.returns-then-a-b
returns-then-a-b c = sym (same-short _ _ c.if-a-b.true)

pub loop-i-init : goal.loop-i-init
loop-i-init c = (omega arith, refl)

pub returns-then-bits_of : goal.returns-then-bits_of
returns-then-bits_of c =
    let w = c.loop-i.invariant in
    sym (w.1 ∙ same_stop _ _ c.loop-i.i c.loop-i-test.true (omega (arith, w.0)) (λ e. c.if-bits_of.true (c.bits_of.ensures ∙ e ∙ sym c.bits_of-in-loop-i.ensures)))

pub loop-i-preserved : goal.loop-i-preserved
loop-i-preserved c =
    let w = c.loop-i.invariant in (
      w.0,
      w.1 ∙ same_step _ _ c.loop-i.i c.loop-i-test.true (omega (arith, w.0)) (sym c.bits_of.ensures ∙ c.if-bits_of.false ∙ c.bits_of-in-loop-i.ensures),
    )

pub returns : goal.returns
returns c =
    let w = c.loop-i.invariant in
    sym (w.1 ∙ same_end _ _ c.loop-i.i c.loop-i-test.false (omega (arith, w.0)))
