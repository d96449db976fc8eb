-- What is left of a float where the sign of a zero is forgotten. Assumes nothing.
use Prim.Native.Nat.{zero, suc}
use mathlib.Core.Bool.{false}
use lib.Ieee.{Float, nan, inf, fin}

-- x, with +0.0 for -0.0
unfoldable pub bare : Float → Float
bare nan = nan
bare (inf s) = inf s
bare (fin s zero e) = fin false zero e
bare (fin s (suc m) e) = fin s (suc m) e
