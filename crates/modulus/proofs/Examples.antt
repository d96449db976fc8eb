-- The definition computed, as one table of bits. Assumes nothing.
use mathlib.Core.Path.{◌≡◌, refl}
use mathlib.Core.List.{List, [], ◌∷◌}
use Prim.Native.Nat.{ℕ}
use lib.Ieee as Ieee
use lib.Ieee.{binary64, of_bits, to_bits, of_fields, odd, round, units, span, climb}
use lib.Count.{count_trailing_zeros}
use Rattle.numbers.specs.Root.{sqrt_of, root_of, squared, units_of, floor_root, next_root}
use Rattle.numbers.specs.Numbers.{is_finite}
use Rattle.complex.specs.Arithmetic.{norm_sqr}
use Rattle.modulus.specs.Modulus.{leading, over, back, root_of_squares, scaled_by, scaled_modulus, modulus_of}

record Row : Type 0 where
  re : ℕ
  im : ℕ
  modulus : ℕ

abbrev row : ℕ → ℕ → ℕ → Row
row a b m = record { re = a; im = b; modulus = m }

abbrev bits_at : Row → ℕ
bits_at r = to_bits binary64 (modulus_of (record { re = of_bits binary64 r.re; im = of_bits binary64 r.im }))

computed : List Row → List ℕ
computed [] = []
computed (r ∷ rs) = bits_at r ∷ computed rs

stored : List Row → List ℕ
stored [] = []
stored (r ∷ rs) = r.modulus ∷ stored rs

-- both squares underflow; the smallest float, twice; three and four times the smallest float; a negative part, a quarter of the other; two zeros, one of them negative; 2^200 beside 1; past the largest float; a large part beside the smallest floats; an infinity; below the normal range, beside less; the highest exponent, scaled by 2^-1023; from below the normal range into it; an infinity and a NaN
abbrev table : List Row
table =
    row 0x1cbcfbe97bba6e07 0x1cc3529ba7d19eaf 0x1cc8274291c6065b
    ∷ row 0x1 0x1 0x1
    ∷ row 0x3 0x4 0x5
    ∷ row 0x1ca3529ba7d19eaf 0x9c83529ba7d19eaf 0x1ca3ead8cb1034da
    ∷ row 0x0 0x8000000000000000 0x0
    ∷ row 0x4c70000000000000 0x3ff0000000000000 0x4c70000000000000
    ∷ row 0x7fefffffffffffff 0x7fefffffffffffff 0x7ff0000000000000
    ∷ row 0x7e37e43c8800759c 0x7 0x7e37e43c8800759c
    ∷ row 0x7ff0000000000000 0x3ff0000000000000 0x7ff0000000000000
    ∷ row 0x8000000000000 0x5 0x8000000000000
    ∷ row 0x7fe0000000000000 0x7fe0000000000000 0x7fe6a09e667f3bcd
    ∷ row 0xfffffffffffff 0xfffffffffffff 0x16a09e667f3bcb
    ∷ row 0x7ff0000000000000 0x7ff8000000000000 0x7ff8000000000000
    ∷ []

as-stored : computed table ≡ stored table
unfolding computed stored Ieee.size span climb to_bits of_bits of_fields odd round units count_trailing_zeros Ieee.add Ieee.sum Ieee.mul sqrt_of root_of squared units_of floor_root next_root is_finite norm_sqr leading over back root_of_squares scaled_by scaled_modulus modulus_of
as-stored = refl
