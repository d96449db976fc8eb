-- Values sorted downward in the total order: each in turn goes before the first that is below it. Definitions only.
use Rattle.std.specs.Prelude.{cond, List, [], ◌∷◌, ℕ, zero, suc, Float, length, get_or}
use Rattle.std.specs.Float.{nan}
use Rattle.numbers.specs.Numbers.{total_less}

-- x stands before the first value that is below it
unfoldable pub insert_down : Float → List Float → List Float
insert_down x [] = x ∷ []
insert_down x (y ∷ l) = cond (total_less y x) (x ∷ y ∷ l) (y ∷ insert_down x l)

-- the first k values, sorted downward
unfoldable pub sort_to : List Float → ℕ → List Float
sort_to values zero = []
sort_to values (suc k) = insert_down (get_or values k nan) (sort_to values k)

-- all of them
abbrev pub sorted_down : List Float → List Float
sorted_down values = sort_to values (length values)

-- ---- how the code finds it: the place where x goes

unfoldable pub seat_of : Float → List Float → ℕ
seat_of x [] = 0
seat_of x (y ∷ l) = cond (total_less y x) 0 (suc (seat_of x l))
