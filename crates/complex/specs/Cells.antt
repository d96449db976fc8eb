-- Complex cells in a list of numbers, and the list style of every contract that fills one: `written m f old`.
-- Assumes nothing.
use Rattle.std.specs.Prelude.{not, List, [], ◌∷◌, ◌++◌, ℕ, zero, suc, ◌+◌, ◌*◌, ◌/◌, Float, get_or, set, drop}
use Rattle.std.specs.Float.{nan}
use Rattle.numbers.specs.Numbers.{allowed}
use Rattle.answers.specs.Paper.{Reply, done, refuse}
use Rattle.complex.specs.declared.Complex.{Complex}

-- the cell x; past the list's end its parts are nan, as the logic reads a slice there
abbrev pub cell_at : List Float → ℕ → Complex
cell_at s x = record { re = get_or s (2 * x) nan; im = get_or s (2 * x + 1) nan }

-- the list with the cell x set
abbrev pub set_cell : List Float → ℕ → Complex → List Float
set_cell s x z = set (set s (2 * x) z.re) (2 * x + 1) z.im

-- m cells, the k-th of them f k
unfoldable pub cells_of : ℕ → (ℕ → Complex) → List Float
cells_of zero f = []
cells_of (suc m) f = cells_of m f ++ (f m).re ∷ (f m).im ∷ []

-- the m first cells are f's, and what lies past them is as it was
unfoldable pub written : ℕ → (ℕ → Complex) → List Float → List Float
unfolding cells_of
written m f old = cells_of m f ++ drop (2 * m) old

-- 7 at the first cell with a number that is not allowed: the numbers from i on are left
unfoldable pub components : ℕ → List Float → Reply
unfolding allowed
components i [] = done
components i (x ∷ l) = refuse (not (allowed x)) (7, i / 2) (components (suc i) l)
