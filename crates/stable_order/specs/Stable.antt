-- What the order is: every place stands in it once, the values fall, and equal values keep their order. Assumes nothing.
use Rattle.std.specs.Prelude.{◌≡◌, true, false, cond, ◌⊎◌, List, [], ◌∷◌, ℕ, ◌+◌, ◌<◌, eqb, get_or, Float}
use Rattle.std.specs.Float.{nan}
use Rattle.std.specs.Float.Ieee.{lt, is_nan}

-- how often i stands in a list
unfoldable pub times : ℕ → List ℕ → ℕ
times i [] = 0
times i (y ∷ l) = cond (eqb i y) 1 0 + times i l

-- y may stand before z: its value is greater, or it is not less and y is the earlier place
abbrev pub Before : List Float → ℕ → ℕ → Type 0
Before values y z =
    (lt (get_or values z nan) (get_or values y nan) ≡ true) ⊎ ((lt (get_or values y nan) (get_or values z nan) ≡ false) × (y < z))

abbrev pub BeforeAll : List Float → ℕ → List ℕ → Type 0
BeforeAll values y [] = Unit
BeforeAll values y (z ∷ l) = Before values y z × BeforeAll values y l

-- of any two, the earlier may stand before the later
abbrev pub Falling : List Float → List ℕ → Type 0
Falling values [] = Unit
Falling values (y ∷ l) = BeforeAll values y l × Falling values l

-- ---- sorted and stable, where no value is a NaN

-- the first k values are no NaN
abbrev pub NoNan : List Float → ℕ → Type 0
NoNan values k = (i : ℕ) → i < k → is_nan (get_or values i nan) ≡ false
