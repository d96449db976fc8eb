-- The weight of a float. `units_of` is a float's magnitude in units of 2^-1074, and 0 for an infinity and the NaN. Definitions only.
use Rattle.std.specs.Prelude.{cond, ℕ, ◌*◌, ◌/◌, ◌^◌, ltb, Float}
use Rattle.numbers.specs.Root.{units_of}

-- The floor of the exact square times 2^24, where the magnitude is below 2 (2^1075 units); else 0.
-- A square in units of 2^-2148, times 2^24, is one in units of 2^-2124.
unfoldable pub weight_of : Float → ℕ
weight_of x = cond (ltb (units_of x) (2 ^ 1075)) (units_of x * units_of x / 2 ^ 2124) 0
