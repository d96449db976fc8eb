use mathlib.Core.Path.{ap, ap₂, ◌∙◌}
use Prim.Native.Nat.{ℕ, ◌*◌}
use native.Mathlib.Omega.{arith}
use Rattle.submasks.specs.Submasks.{submask_number}
use Rattle.density_recount.proofs.RecountLaws.{numbers-step, scaled_small}
use Rattle.density_recount.proofs.fill_numbers.Goals as goal

pub overflow_mul-table : goal.overflow_mul-table
overflow_mul-table c = omega (arith, scaled_small _ _ _ _ _ c.requires.listed.small c.number_in.ensures c.requires.mask_value.1)

pub loop-t-preserved : goal.loop-t-preserved
loop-t-preserved c =
    numbers-step _ _ _ _ _ _ _ _ c.loop-t.invariant c.loop-t-test.true c.requires.mask_value.2
    (ap (λ (y : ℕ). y * c.args.scale) (c.number_in.ensures ∙ ap₂ (submask_number c.args.n) c.requires.mask_value.0 c.row_offset.ensures))
