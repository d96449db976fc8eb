use mathlib.Core.List.{List, ◌++◌}
use mathlib.Core.Path.{ap₂, ◌∙◌}
use native.Mathlib.Omega.{arith}
use lib.Ieee.{Float}
use Rattle.chain_fill.proofs.TailLaws.{all-zeroed}
use Rattle.chain_fill.proofs.fill_tail.Goals as goal

pub returns : goal.returns
returns c =
    ap₂ (λ (x y : List Float). x ++ y) c.copy_over.ensures
    (c.zero_first.ensures ∙ all-zeroed _ _ (omega (arith, c.split_at_mut-front.ensures.back_len)))
