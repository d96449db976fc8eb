-- Schmidt values from the eigenvalues of a density, as 01 has them: the floor is the largest weight times 1e-14, the roots of the weights above it
-- are taken, and those are finished. Definitions only.
use Rattle.std.specs.Prelude.{cond, List, [], ◌∷◌, Float}
use Rattle.std.specs.Float.{binary64}
use Rattle.std.specs.Float.Ieee.{mul, lt}
use Rattle.answers.specs.Paper.{Reply}
use Rattle.numbers.specs.Numbers.{larger_of}
use Rattle.numbers.specs.Root.{sqrt_of}
use Rattle.complex.specs.Zeros.{zero_float}
use Rattle.finish.specs.Finish.{value_floor, finish_of, finish_reply}

-- the largest of these and those before
unfoldable pub largest_from : Float → List Float → Float
largest_from m [] = m
largest_from m (x ∷ l) = largest_from (larger_of m x) l

-- the largest weight, at least +0.0, times 1e-14
unfoldable pub weight_floor : List Float → Float
weight_floor l = mul binary64 (largest_from zero_float l) value_floor

-- the roots of the weights above the floor, in order
unfoldable pub roots_above : Float → List Float → List Float
roots_above floor [] = []
roots_above floor (w ∷ l) = cond (lt floor w) (sqrt_of w ∷ roots_above floor l) (roots_above floor l)

unfoldable pub roots_of : List Float → List Float
roots_of l = roots_above (weight_floor l) l

-- the Schmidt values of a density with these eigenvalues
abbrev pub weights_finished : List Float → List Float
weights_finished l = finish_of (roots_of l)

abbrev pub weights_reply : List Float → Reply
weights_reply l = finish_reply (roots_of l)
