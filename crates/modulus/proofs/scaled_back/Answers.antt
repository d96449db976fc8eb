-- `modulus::scaled_back` meets its contract: both guesses hold, or the root is worked out. Assumes nothing.
use mathlib.Core.Path.{sym, ap, ◌∙◌}
use lib.Ieee.{Float, binary64, mul}
use Rattle.modulus.specs.Modulus.{root_of_squares}
use Rattle.modulus.proofs.scaled_back.Goals as goal

pub returns-then-same : goal.returns-then-same
unfolding root_of_squares
returns-then-same c =
    sym (c.same.ensures c.if-same.true)
    ∙ ap (λ (g : Float). mul binary64 g c.args.p) (c.is_root.ensures c.if-is_root.true)

pub returns : goal.returns
unfolding root_of_squares
returns c = ap (λ (g : Float). mul binary64 g c.args.p) c.root_near.ensures
