-- Laws of what `specs/Decisions.antt` defines. Assumes nothing.
use mathlib.Core.Path.{◌≡◌, ◌∙◌}
use mathlib.Core.Logic.{◌⊎◌, inl, inr}
use mathlib.Core.Bool.{true, false}
use lib.Ieee as Ieee
use lib.Ieee.{Float, binary64}
use Rattle.complex.specs.Zeros.{zero_float}
use Rattle.svd_pair.proofs.Signs.{not-both, none}
use Rattle.svd_pair.specs.Decisions.{hypotenuse, tangent_of}
use Rattle.numbers.specs.Numbers.{one_float}

-- ---- a law for each way through the code

-- what the sign of x picks for |x| and for ∓1
abbrev pub Size : Float → Float → Type 0
Size x size = ((Ieee.lt x zero_float ≡ true) × (size ≡ Ieee.neg x)) ⊎ ((Ieee.lt x zero_float ≡ false) × (size ≡ x))

pub tangent-up : (x h size o : Float) → Ieee.le zero_float x ≡ true → h ≡ hypotenuse x → Size x size → o ≡ Ieee.neg one_float → Ieee.div binary64 o (Ieee.add binary64 size h) ≡ tangent_of x
unfolding tangent_of
tangent-up x h size o t e (inl f) g = absurd (not-both x t f.0)
tangent-up x h size o t e (inr f) g = rw (t, e, f.1, g)

pub tangent-down : (x h size o : Float) → Ieee.le zero_float x ≡ false → h ≡ hypotenuse x → Size x size → o ≡ one_float → Ieee.div binary64 o (Ieee.add binary64 size h) ≡ tangent_of x
unfolding tangent_of
tangent-down x h size o t e (inl f) g = rw (t, e, f.1, g)
tangent-down x h size o t e (inr f) g = rw (t, e, f.1 ∙ none x t f.0, g)
