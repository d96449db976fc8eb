use mathlib.Core.Path.{◌≡◌, refl, sym, ap, ◌∙◌}
use Prim.Native.Nat.{ℕ, ◌-◌}
use native.Mathlib.Omega.{arith}
use Rattle.density_block.specs.Factor.{width_of}
use Rattle.density_block.proofs.FactorLaws.{width-found, width-next, width-none}
use Rattle.density_block.proofs.width_of.Goals as goal

pub loop-q-init : goal.loop-q-init
loop-q-init c = refl

pub returns-then-dim-bit : goal.returns-then-dim-bit
returns-then-dim-bit c = sym (c.loop-q.invariant ∙ width-found (c.loop-q.q - 1) c.args.dim (omega arith) (c.if-dim-bit.true ∙ c.bit.ensures))

pub loop-q-preserved : goal.loop-q-preserved
loop-q-preserved c = c.loop-q.invariant ∙ width-next (c.loop-q.q - 1) c.args.dim (omega arith) (λ e. c.if-dim-bit.false (e ∙ sym c.bit.ensures))

pub returns : goal.returns
returns c = let z : c.loop-q.q - 1 ≡ 0 = omega (arith, c.loop-q-test.false) in sym (c.loop-q.invariant ∙ ap (λ (x : ℕ). width_of x c.args.dim) z ∙ width-none c.args.dim)
