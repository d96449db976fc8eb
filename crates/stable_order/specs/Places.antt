-- Places of a list, whole numbers below 4096, kept as floats. Assumes nothing.
use Rattle.std.specs.Prelude.{◌≡◌, List, [], ◌∷◌, ℕ, ◌<◌, pos, Float}
use Rattle.std.specs.Float.{binary64}
use Rattle.std.specs.Float.Ieee.{of_int, to_unsigned}

-- the float of a place, and the place of a float
abbrev pub place : ℕ → Float
place i = of_int binary64 (pos i)

abbrev pub place_in : Float → ℕ
place_in x = to_unsigned 64 x

-- a list of places as floats, and back
unfoldable pub places_of : List ℕ → List Float
places_of [] = []
places_of (i ∷ l) = place i ∷ places_of l

unfoldable pub places_in : List Float → List ℕ
places_in [] = []
places_in (x ∷ l) = place_in x ∷ places_in l

-- every place of a list is below n
abbrev pub Below : ℕ → List ℕ → Type 0
Below n [] = Unit
Below n (y ∷ ys) = (y < n) × Below n ys

-- every float of a list is that of a place below n
pub record Places (n : ℕ) (l : List Float) : Type 0 where
  pub places : List ℕ
  pub are : l ≡ places_of places
  pub low : Below n places
