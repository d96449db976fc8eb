-- A float as a whole number of 2^-18 of magnitude at most 1. `units_of` is a float in units of 2^-1074; 2^-18 is
-- 2^1056 of them, 1 is 2^1074. Definitions only.
use Rattle.std.specs.Prelude.{◌≡◌, Bool, true, false, ◌&&◌, cond, ℕ, ◌*◌, ◌/◌, ◌%◌, ◌^◌, ◌<◌, ◌≤◌, leb, eqb, Float, Option, Some, None}
use Rattle.std.specs.Float.{nan, inf, fin}
use Rattle.std.specs.Option.{option_map}
use Rattle.numbers.specs.Root.{units_of}
use Rattle.numbers.specs.Steps.{normal_size}
use Rattle.countersign_grid.specs.declared.Grid.{Grid}

-- so many units of 2^-1074 are a whole number of 2^-18, and at most 1
unfoldable pub gridded : ℕ → Bool
gridded s = eqb (s % 2 ^ 1056) 0 && leb s (2 ^ 1074)

-- how many of 2^-18, where it is so
unfoldable pub grid_units : ℕ → Option ℕ
unfolding gridded
grid_units s = cond (gridded s) (Some (s / 2 ^ 1056)) None

-- so many under 0, and over it
abbrev pub under_of : ℕ → Grid
under_of k = record { over = 0; under = k }

abbrev pub over_of : ℕ → Grid
over_of k = record { over = k; under = 0 }

-- none where the float is not on the grid
unfoldable pub grid_of : Float → Option Grid
unfolding units_of grid_units
grid_of nan = None
grid_of (inf s) = None
grid_of (fin true m e) = option_map under_of (grid_units (units_of (fin true m e)))
grid_of (fin false m e) = option_map over_of (grid_units (units_of (fin false m e)))

-- what the bits without the sign say: those of a float below the smallest normal one, and of a normal one; no other
-- is on the grid
pub record GridBits (b : ℕ) (r : Option ℕ) : Type 0 where
  pub small : b < 2 ^ 52 → r ≡ grid_units b
  pub normal : 2 ^ 52 ≤ b → b < 2047 * 2 ^ 52 → r ≡ grid_units (normal_size b)
  pub past : 2047 * 2 ^ 52 ≤ b → r ≡ None
