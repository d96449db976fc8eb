-- `exact_root` at some floats, computed, by their bit patterns. Assumes nothing.
use mathlib.Core.Path.{◌≡◌, refl}
use mathlib.Core.Bool.{Bool, true, false}
use Prim.Native.Nat.{ℕ}
use lib.Ieee as Ieee
use lib.Ieee.{binary64, of_bits, of_fields, odd, round, units}
use lib.Count.{count_trailing_zeros}
use Rattle.numbers.specs.Root.{sqrt_of, root_of, squared, units_of, floor_root, next_root}
use Rattle.exact_roots.specs.Exact.{exact_root, square_units}

unfoldable even : ℕ → Bool
unfolding exact_root square_units sqrt_of root_of squared units_of floor_root next_root of_bits of_fields odd round units count_trailing_zeros Ieee.size Ieee.span Ieee.climb
even b = exact_root (of_bits binary64 b)

one : even 0x3ff0_0000_0000_0000 ≡ true
unfolding even
one = refl

four : even 0x4010_0000_0000_0000 ≡ true
unfolding even
four = refl

not-a-number : even 0x7ff8_0000_0000_0000 ≡ false
unfolding even
not-a-number = refl

plus-zero : even 0x0000_0000_0000_0000 ≡ true
unfolding even
plus-zero = refl

minus-zero : even 0x8000_0000_0000_0000 ≡ true
unfolding even
minus-zero = refl

smallest : even 0x0000_0000_0000_0001 ≡ true
unfolding even
smallest = refl

twice-the-smallest : even 0x0000_0000_0000_0002 ≡ false
unfolding even
twice-the-smallest = refl

four-times-the-smallest : even 0x0000_0000_0000_0004 ≡ true
unfolding even
four-times-the-smallest = refl

twenty-five : even 0x4039_0000_0000_0000 ≡ true
unfolding even
twenty-five = refl

two : even 0x4000_0000_0000_0000 ≡ false
unfolding even
two = refl

root-of-the-smallest : even 0x1e60_0000_0000_0000 ≡ false
unfolding even
root-of-the-smallest = refl

two-and-a-quarter : even 0x4002_0000_0000_0000 ≡ true
unfolding even
two-and-a-quarter = refl

largest-odd : even 0x4330_0000_0800_0001 ≡ true
unfolding even
largest-odd = refl

of-27-digits : even 0x4480_f0cf_064d_d592 ≡ true
unfolding even
of-27-digits = refl

infinity : even 0x7ff0_0000_0000_0000 ≡ false
unfolding even
infinity = refl

minus-four : even 0xc010_0000_0000_0000 ≡ false
unfolding even
minus-four = refl

largest : even 0x7fef_ffff_ffff_ffff ≡ false
unfolding even
largest = refl
