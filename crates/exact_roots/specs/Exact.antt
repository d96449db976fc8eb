-- Whether a square root comes out even. Definitions only.
use Rattle.std.specs.Prelude.{Bool, true, false, ◌&&◌, ℕ, zero, suc, ◌*◌, eqb, Float}
use Rattle.std.specs.Float.{nan, inf, fin}
use Rattle.numbers.specs.Root.{units_of, squared, sqrt_of}

-- the square of r, where r is counted in units of 2 ^ -1074
unfoldable pub square_units : Float → ℕ
square_units r = units_of r * units_of r

-- Whether the square of the root of x is x as real numbers: both zeros yes, infinity no; a negative number and a NaN have no root.
unfoldable pub exact_root : Float → Bool
unfolding square_units
exact_root nan = false
exact_root (inf s) = false
exact_root (fin s zero e) = true
exact_root (fin true (suc m) e) = false
exact_root (fin false (suc m) e) = eqb (square_units (sqrt_of (fin false (suc m) e))) (squared (fin false (suc m) e))

-- whether the roots of the first k numbers are all exact
unfoldable pub all_exact : ℕ → (ℕ → Float) → Bool
all_exact zero f = true
all_exact (suc k) f = all_exact k f && exact_root (f k)
