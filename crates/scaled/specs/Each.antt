-- Each number of a list is an allowed component. Definitions only.
use Rattle.std.specs.Prelude.{◌≡◌, true, List, ℕ, ◌<◌, Float, length, get_or}
use Rattle.std.specs.Float.{nan}
use Rattle.numbers.specs.Numbers.{allowed}

abbrev pub EachAllowed : List Float → Type 0
EachAllowed s = (j : ℕ) → j < length s → allowed (get_or s j nan) ≡ true
