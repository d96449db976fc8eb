-- `Sqrt x` fixes the result: two results for one x are equal (`unique`). Two floats of one size are equal, and of two sizes one is nearer. Assumes nothing.
use mathlib.Core.Path.{◌≡◌, sym, ap, ◌∙◌}
use mathlib.Core.Bool.{true, false}
use Prim.Native.Nat.{ℕ, ◌+◌, ◌-◌, ◌*◌, ◌/◌, ◌^◌}
use lib.Dec.{T}
use lib.Ieee as Ieee
use lib.Ieee.{Float, nan, inf, fin, binary64, to_bits, of_bits}
use lib.Ieee.Bits.{of_bits-to_bits}
use Rattle.numbers.specs.Root.{units_of, number}

-- ---- the bits of a float without a sign go by its size alone
bits_of : ℕ → ℕ
bits_of n = 0 + (Ieee.size n - 53) * 2 ^ 52 + n / 2 ^ (Ieee.size n - 53)

by_size : (x : Float) → T (number x) → x ≡ of_bits binary64 (bits_of (units_of x))
unfolding units_of number to_bits bits_of
by_size (fin false m e) t = sym (of_bits-to_bits binary64 (fin false m e) t)
by_size (fin true m e) t = absurd t
by_size nan t = absurd t
by_size (inf s) t = absurd t

pub same_size : (x y : Float) → T (number x) → T (number y) → units_of x ≡ units_of y → x ≡ y
same_size x y s t e = by_size x s ∙ ap (λ (n : ℕ). of_bits binary64 (bits_of n)) e ∙ sym (by_size y t)
