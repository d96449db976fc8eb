-- `sqrt_of` at some floats, computed, by their bit patterns. Assumes nothing.
use mathlib.Core.Path.{◌≡◌, refl}
use Prim.Native.Nat.{ℕ}
use lib.Ieee as Ieee
use lib.Ieee.{binary64, of_bits, to_bits, of_fields, odd, round, units}
use lib.Count.{count_trailing_zeros}
use Rattle.numbers.specs.Root.{sqrt_of, root_of, squared, units_of, floor_root, next_root}

unfoldable root : ℕ → ℕ
unfolding sqrt_of root_of squared units_of floor_root next_root of_bits to_bits of_fields odd round units count_trailing_zeros Ieee.size Ieee.span Ieee.climb
root b = to_bits binary64 (sqrt_of (of_bits binary64 b))

two : root 0x4000_0000_0000_0000 ≡ 0x3ff6_a09e_667f_3bcd
unfolding root
two = refl

three : root 0x4008_0000_0000_0000 ≡ 0x3ffb_b67a_e858_4caa
unfolding root
three = refl

a-quarter : root 0x3fd0_0000_0000_0000 ≡ 0x3fe0_0000_0000_0000
unfolding root
a-quarter = refl

tenth : root 0x3fb9_9999_9999_999a ≡ 0x3fd4_3d13_6248_490f
unfolding root
tenth = refl

smallest : root 0x0000_0000_0000_0001 ≡ 0x1e60_0000_0000_0000
unfolding root
smallest = refl

largest-subnormal : root 0x000f_ffff_ffff_ffff ≡ 0x1fff_ffff_ffff_ffff
unfolding root
largest-subnormal = refl

smallest-normal : root 0x0010_0000_0000_0000 ≡ 0x2000_0000_0000_0000
unfolding root
smallest-normal = refl

largest : root 0x7fef_ffff_ffff_ffff ≡ 0x5fef_ffff_ffff_ffff
unfolding root
largest = refl

below_one : root 0x3fef_ffff_ffff_ffff ≡ 0x3fef_ffff_ffff_ffff
unfolding root
below_one = refl

above-one : root 0x3ff0_0000_0000_0001 ≡ 0x3ff0_0000_0000_0000
unfolding root
above-one = refl

below-four : root 0x400f_ffff_ffff_ffff ≡ 0x3fff_ffff_ffff_ffff
unfolding root
below-four = refl

zero : root 0x0000_0000_0000_0000 ≡ 0x0000_0000_0000_0000
unfolding root
zero = refl

minus-zero : root 0x8000_0000_0000_0000 ≡ 0x8000_0000_0000_0000
unfolding root
minus-zero = refl

infinity : root 0x7ff0_0000_0000_0000 ≡ 0x7ff0_0000_0000_0000
unfolding root
infinity = refl

minus-infinity : root 0xfff0_0000_0000_0000 ≡ 0x7ff8_0000_0000_0000
unfolding root
minus-infinity = refl

minus_one : root 0xbff0_0000_0000_0000 ≡ 0x7ff8_0000_0000_0000
unfolding root
minus_one = refl

a-nan : root 0xfff0_0000_0000_0001 ≡ 0x7ff8_0000_0000_0000
unfolding root
a-nan = refl
