-- `modulus::normal` meets its contract: each multiplication is a scaling of the definition (`Times.antt`). Assumes nothing.
use mathlib.Core.Path.{refl, ◌∙◌}
use lib.Pow.{pow_pos}
use Rattle.modulus.proofs.Times.{over-mul}
use Rattle.modulus.proofs.Ways.{scaled-by}
use Rattle.modulus.proofs.normal.Goals as goal

pub returns : goal.returns
returns c =
    c.scaled_back.ensures
    ∙ scaled-by _ _ _ _ _ _ _ (pow_pos _) (over-mul _ _ _ (pow_pos _) c.requires.2 c.power_under-under.ensures) (over-mul _ _ _ (pow_pos _) c.requires.3 c.power_under-under.ensures) refl c.power.ensures
