use mathlib.Core.Path.{sym, ◌∙◌}
use Prim.Native.Nat.{◌-◌}
use native.Mathlib.Omega.{arith}
use Rattle.density_recount.proofs.RecountLaws.{packed-begin, packed-small, packed-one, packed_none, packed-end, digit-is, no_digit}
use Rattle.density_recount.proofs.number_in.Goals as goal

pub loop-q-init : goal.loop-q-init
loop-q-init c = packed-begin _ _ _

pub overflow_mul-number : goal.overflow_mul-number
overflow_mul-number c = omega (arith, packed-small _ _ _ _ _ c.loop-q.invariant c.requires)

pub overflow_add-number : goal.overflow_add-number
overflow_add-number c =
    omega (arith, packed-small _ _ _ _ _ c.loop-q.invariant c.requires, digit-is c.args.x (c.loop-q.q - 1))

pub loop-q-preserved-then-mask-q-eq1 : goal.loop-q-preserved-then-mask-q-eq1
loop-q-preserved-then-mask-q-eq1 c =
    let z = c.args in
    let i = c.loop-q in
    rw (digit-is z.x (i.q - 1)) (packed-one _ _ _ _ _ i.invariant c.loop-q-test.true (sym (digit-is _ _) ∙ c.if-mask-q-eq1.true))

pub loop-q-preserved : goal.loop-q-preserved
loop-q-preserved c =
    let i = c.loop-q in
    packed_none _ _ _ _ _ i.invariant c.loop-q-test.true (no_digit _ (λ e. c.if-mask-q-eq1.false (digit-is _ _ ∙ e)))

pub returns : goal.returns
returns c = packed-end _ _ _ _ _ c.loop-q.invariant c.loop-q-test.false
