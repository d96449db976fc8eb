-- Lists of values: the first that is not allowed, whether all are finite, what a floor keeps, squares summed in order, each times a number. Definitions only.
use Rattle.std.specs.Prelude.{Bool, true, false, not, cond, List, [], ◌∷◌, ℕ, suc, Float}
use Rattle.std.specs.Float.{binary64}
use Rattle.std.specs.Float.Ieee.{of_bits, neg, add, mul, le}
use Rattle.answers.specs.Paper.{Reply, done, refuse}
use Rattle.numbers.specs.Numbers.{allowed, is_finite}

-- -0.0, from which the Rust sums
abbrev pub minus_zero : Float
minus_zero = neg (of_bits binary64 0)

-- 7 at the first value that is not allowed, a value being one cell: those from place i on are left
unfoldable pub values_allowed : ℕ → List Float → Reply
values_allowed i [] = done
values_allowed i (x ∷ l) = refuse (not (allowed x)) (7, i) (values_allowed (suc i) l)

unfoldable pub all_finite : List Float → Bool
all_finite [] = true
all_finite (x ∷ l) = cond (is_finite x) (all_finite l) false

-- cut at the first value at or below the floor
unfoldable pub kept_above : Float → List Float → List Float
kept_above floor [] = []
kept_above floor (x ∷ l) = cond (le x floor) [] (x ∷ kept_above floor l)

-- the squares added in order to what was summed before
unfoldable pub squares_from : Float → List Float → Float
squares_from total [] = total
squares_from total (x ∷ l) = squares_from (add binary64 total (mul binary64 x x)) l

-- each value times k
unfoldable pub scaled_by : Float → List Float → List Float
scaled_by k [] = []
scaled_by k (x ∷ l) = mul binary64 x k ∷ scaled_by k l
