-- The finish of Schmidt values as 01 has it: sort downward, floor = first times 1e-14, cut at the first value at or below the floor,
-- sum the squares in order, multiply each by 1/√total. Definitions only.
use Rattle.std.specs.Prelude.{Bool, not, List, [], ◌∷◌, ◌++◌, ℕ, ◌-◌, eqb, ltb, Float, length, drop}
use Rattle.std.specs.Float.{binary64}
use Rattle.std.specs.Float.Ieee.{of_bits, mul, div}
use Rattle.answers.specs.Paper.{Reply, done, refuse, and_then}
use Rattle.numbers.specs.Numbers.{one_float}
use Rattle.numbers.specs.Root.{sqrt_of}
use Rattle.complex.specs.Zeros.{zero_float, zeros}
use Rattle.exact_roots.specs.Exact.{exact_root}
use Rattle.values.specs.Lists.{values_allowed, all_finite, kept_above, squares_from, scaled_by, minus_zero}
use Rattle.values.specs.Sort.{sorted_down}

-- 1e-14
abbrev pub value_floor : Float
value_floor = of_bits binary64 0x3d06_849b_86a1_2b9b

-- the first value times 1e-14; 0.0 stands for the first of none
unfoldable pub floor_of : List Float → Float
floor_of [] = mul binary64 zero_float value_floor
floor_of (x ∷ l) = mul binary64 x value_floor

-- each value times 1/√(the sum of their squares)
unfoldable pub normalised : List Float → List Float
normalised l = scaled_by (div binary64 one_float (sqrt_of (squares_from minus_zero l))) l

-- whether that root is exact
unfoldable pub scale_exact : List Float → Bool
scale_exact l = exact_root (squares_from minus_zero l)

-- what is left of values that are sorted downward
unfoldable pub kept_values : List Float → List Float
kept_values s = kept_above (floor_of s) s

unfoldable pub finish_sorted : List Float → List Float
finish_sorted s = normalised (kept_values s)

-- the Schmidt values of a list of values
abbrev pub finish_of : List Float → List Float
finish_of values = finish_sorted (sorted_down values)

-- whether the root of the final scale of a list of values is exact
abbrev pub finish_exact : List Float → Bool
finish_exact values = scale_exact (kept_values (sorted_down values))

-- 8 where none is left, 9 where a result is not finite
unfoldable pub sorted_reply : List Float → Reply
sorted_reply s = refuse (eqb (length (kept_values s)) 0) (8, 0) (refuse (not (all_finite (finish_sorted s))) (9, 0) done)

abbrev pub finish_reply : List Float → Reply
finish_reply values = sorted_reply (sorted_down values)

-- the values, +0.0 up to the needed n, and past that what was there
unfoldable pub padded : ℕ → List Float → List Float → List Float
padded n l old = l ++ zeros (n - length l) ++ drop n old

-- 1: more than 64 values; 6: the output is shorter than the values; 7
unfoldable pub finish_refusal : List Float → ℕ → Reply
finish_refusal values room = refuse (ltb 64 (length values)) (1, 0) (refuse (ltb room (length values)) (6, 1) (values_allowed 0 values))

-- the whole answer
abbrev pub finish_answer : List Float → List Float → Reply
finish_answer values old = and_then (finish_refusal values (length old)) (finish_reply values)
