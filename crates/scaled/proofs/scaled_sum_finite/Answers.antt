use mathlib.Core.Path.{◌≡◌, refl, sym, ap, ap₂, ◌∙◌}
use Prim.Native.Nat.{◌+◌, ◌*◌}
use native.Mathlib.Omega.{arith}
use lib.Ieee.{binary64, add}
use Rattle.numbers.specs.Numbers.{is_finite}
use Rattle.scaled.proofs.EightLaws.{holds-none, holds-still, holds_more, holds-all}
use Rattle.scaled.proofs.scaled_sum_finite.Goals as goal

pub loop-k-init : goal.loop-k-init
loop-k-init c = (holds_more _ holds-none c.with_eight-sums.ensures (omega arith), holds-none, holds-none)

pub loop-k-preserved : goal.loop-k-preserved
loop-k-preserved c =
    let v = c.loop-k.invariant in
    let e = c.with_eight-sums-in-loop-k.ensures in
    let t : 8 * (c.loop-k.k + 1) ≡ 8 * c.loop-k.k + 8 = omega arith in
    (holds-still _ v.0 e, rw t (holds_more _ v.1 e (omega arith)), rw t (holds_more _ v.2 c.with_eight-others.ensures refl))

pub returns : goal.returns
returns c =
    λ h.
    let v = c.loop-k.invariant in
    let e = ap₂ (add binary64) c.join.ensures c.join-2.ensures in
    holds-all v.0 v.1 v.2 (omega arith) (omega arith) (omega arith) (ap is_finite (sym e) ∙ sym c.is_finite.ensures ∙ h)
