-- The same float but for the sign of a zero: what negation and a zero's sign do to sums. Assumes nothing.
use Rattle.std.specs.Prelude.{Bool, pos, Float}
use Rattle.std.specs.Float.{fin}

-- the same, or both a zero
pub data Alike : Float → Float → Type 0 where
  same : {x : Float} → Alike x x
  zeros : {s t : Bool} → Alike (fin s 0 (pos 0)) (fin t 0 (pos 0))
