-- DEMAND 3, c: listing the same qubits in another order keeps the cut matrix bit for bit, and only renumbers the density, signs of zeros
-- aside. Assumes nothing.
use Rattle.std.specs.Prelude.{List, [], ◌∷◌, ℕ, ◌+◌, ◌*◌, ◌/◌, ◌%◌, ◌^◌}
use Rattle.qubits.specs.Spread.{spread}

-- ---- the way back from a spread setting

-- digit i is x's on the i-th listed qubit
unfoldable pub unspread : List ℕ → ℕ → ℕ
unspread [] x = 0
unspread (q ∷ l) x = x / 2 ^ q % 2 + unspread l x * 2

-- the setting of the list l' that is the setting t of the list l
abbrev pub renumber : List ℕ → List ℕ → ℕ → ℕ
renumber l l' t = unspread l' (spread l t)
