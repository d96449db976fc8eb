-- The NaN's bits are fixed. Assumes nothing.
use mathlib.Core.Path.{◌≡◌, refl, sym}
use mathlib.Core.Bool.{true, true≢false}
use lib.Ieee.{Float, nan, inf, fin, binary64, to_bits, is_nan}

nan-bits : 0x7ff8_0000_0000_0000 ≡ to_bits binary64 nan
unfolding to_bits
nan-bits = refl

pub of_nan : (x : Float) → is_nan x ≡ true → 0x7ff8_0000_0000_0000 ≡ to_bits binary64 x
unfolding is_nan
of_nan nan h = nan-bits
of_nan (inf s) h = absurd (true≢false (sym h))
of_nan (fin s m e) h = absurd (true≢false (sym h))
