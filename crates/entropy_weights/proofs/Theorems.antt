-- What the weight of a float is. Assumes nothing.
use mathlib.Core.Path.{◌≡◌}
use Prim.Native.Nat.{◌+◌, ◌*◌, ◌^◌, ◌≤◌, ◌<◌}
use native.Mathlib.Nat.{div-mul-le_self, lt-div-mul-add}
use lib.Pow.{pow_pos}
use lib.Ieee.{Float}
use Rattle.numbers.specs.Root.{units_of}
use Rattle.entropy_weights.specs.Weights.{weight_of}
use Rattle.entropy_weights.proofs.WeightLaws.{weight-in, weight-past, weight-few}

-- A float below 2 has so many units of 2^-1074 that their square, in units of 2^-2148, holds the weight 2^2124 times,
pub weight-under : (x : Float) → units_of x < 2 ^ 1075 → weight_of x * 2 ^ 2124 ≤ units_of x * units_of x
weight-under x h = rw (weight-in x h) (div-mul-le_self (units_of x * units_of x) (2 ^ 2124))

-- and one more is too many: the weight is the floor of the exact square times 2^24.
pub weight-over : (x : Float) → units_of x < 2 ^ 1075 → units_of x * units_of x < weight_of x * 2 ^ 2124 + 2 ^ 2124
weight-over x h = rw (weight-in x h) (lt-div-mul-add (pow_pos 2124))

-- From 2 on the weight is 0.
pub weight-from-two : (x : Float) → 2 ^ 1075 ≤ units_of x → weight_of x ≡ 0
weight-from-two x h = weight-past x h

-- A weight is below 2^26.
pub weight-small : (x : Float) → weight_of x < 2 ^ 26
weight-small x = weight-few x
