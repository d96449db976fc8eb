use mathlib.Core.Path.{sym, ap, ◌∙◌}
use mathlib.Core.Bool.{Bool, ◌&&◌}
use Prim.Native.Nat.{◌+◌}
use lib.ListN.{drop}
use Rattle.components.specs.Every.{every_allowed}
use Rattle.components.proofs.EveryLaws.{every_more, every-end, every-of-each}
use Rattle.components.proofs.every_allowed.Goals as goal

pub returns-then-scaled_sum_finite : goal.returns-then-scaled_sum_finite
returns-then-scaled_sum_finite c = sym (every-of-each _ (c.scaled_sum_finite.ensures c.if-scaled_sum_finite.true))

pub loop-x-preserved : goal.loop-x-preserved
loop-x-preserved c =
    every_more _ _ c.loop-x.every c.loop-x-test.true c.loop-x.invariant
    ∙ ap (λ (x : Bool). (c.loop-x.every && x) && every_allowed (drop (c.loop-x.x-index + 1) c.args.s.now)) (sym c.component_allowed-every.ensures)

pub returns : goal.returns
returns c = every-end _ _ _ c.loop-x-test.false c.loop-x.invariant
