-- The first numbers of a list set to +0.0, the rest as it was. Assumes nothing.
use Rattle.std.specs.Prelude.{List, [], ◌∷◌, ◌++◌, ℕ, zero, suc, Float, drop}
use Rattle.std.specs.Float.{binary64}
use Rattle.std.specs.Float.Ieee.{of_bits}

-- +0.0
abbrev pub zero_float : Float
zero_float = of_bits binary64 0

-- m times +0.0
unfoldable pub zeros : ℕ → List Float
zeros zero = []
zeros (suc m) = zeros m ++ zero_float ∷ []

-- the m first numbers are +0.0, and what lies past them is as it was
unfoldable pub zeroed : ℕ → List Float → List Float
unfolding zeros
zeroed m old = zeros m ++ drop m old
