-- THE DOWNWARD SORT: the sorted values fall in the total order, and each value stands among them as often as before. Assumes nothing.
use Rattle.std.specs.Prelude.{◌≡◌, Bool, false, cond, List, [], ◌∷◌, ℕ, ◌+◌, Float}
use Rattle.numbers.specs.Numbers.{total_less}

-- none of the list is greater than y
abbrev pub NoneAbove : Float → List Float → Type 0
NoneAbove y [] = Unit
NoneAbove y (z ∷ l) = (total_less y z ≡ false) × NoneAbove y l

-- of any two, the later is not the greater
abbrev pub Falls : List Float → Type 0
Falls [] = Unit
Falls (y ∷ l) = NoneAbove y l × Falls l

-- how many of a list pass a test
unfoldable pub passing : (Float → Bool) → List Float → ℕ
passing test [] = 0
passing test (y ∷ l) = cond (test y) 1 0 + passing test l
