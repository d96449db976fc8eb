-- Amplitudes times 1, i, -1 or -i, exactly: parts exchanged and negated, and no arithmetic. Definitions only.
use Rattle.std.specs.Prelude.{List, [], ◌∷◌, ℕ, suc, Float}
use Rattle.std.specs.Float.Ieee.{neg}
use Rattle.complex.specs.declared.Complex.{Complex}
use Rattle.complex.specs.Arithmetic.{complex_of}

-- a quarter-wave plate's four settings
pub data Plate : Type 0 where
  plain quarter half back : Plate

-- times 1, i, -1, -i
abbrev pub by_plate : Plate → Complex → Complex
by_plate plain a = a
by_plate quarter a = complex_of (neg a.im) a.re
by_plate half a = complex_of (neg a.re) (neg a.im)
by_plate back a = complex_of a.im (neg a.re)

-- a state, cell by cell, from the cell x on: f says which plate stands before a cell. An odd last number stays
unfoldable pub plated : (ℕ → Plate) → ℕ → List Float → List Float
plated f x [] = []
plated f x (a ∷ []) = a ∷ []
plated f x (a ∷ b ∷ l) = (by_plate (f x) (complex_of a b)).re ∷ (by_plate (f x) (complex_of a b)).im ∷ plated f (suc x) l
