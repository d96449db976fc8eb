-- The stable downward order of a list of values, as a list of places: each place in turn is put before the first whose value is less.
-- Assumes nothing.
use Rattle.std.specs.Prelude.{cond, List, [], ◌∷◌, ℕ, zero, suc, get_or, Float}
use Rattle.std.specs.Float.{nan}
use Rattle.std.specs.Float.Ieee.{lt}

-- the place x stands before the first whose value is less than that of x
unfoldable pub inserted : List Float → ℕ → List ℕ → List ℕ
inserted values x [] = x ∷ []
inserted values x (y ∷ ys) = cond (lt (get_or values y nan) (get_or values x nan)) (x ∷ y ∷ ys) (y ∷ inserted values x ys)

-- the places below k, in order
unfoldable pub order_to : List Float → ℕ → List ℕ
order_to values zero = []
order_to values (suc k) = inserted values k (order_to values k)

-- where x goes
unfoldable pub seat_of : List Float → ℕ → List ℕ → ℕ
seat_of values x [] = 0
seat_of values x (y ∷ ys) = cond (lt (get_or values y nan) (get_or values x nan)) 0 (suc (seat_of values x ys))
