-- Numbers that are finite and no zero. Definitions only.
use Rattle.std.specs.Prelude.{◌≡◌, Bool, true, false, List, ℕ, zero, suc, ◌<◌, Float, length, get_or}
use Rattle.std.specs.Float.{nan, inf, fin}

-- finite and no zero
unfoldable pub clean : Float → Bool
clean nan = false
clean (inf s) = false
clean (fin s zero e) = false
clean (fin s (suc m) e) = true

-- each number of a list is
abbrev pub EachClean : List Float → Type 0
EachClean s = (j : ℕ) → j < length s → clean (get_or s j nan) ≡ true
