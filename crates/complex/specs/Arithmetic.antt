-- Complex arithmetic on a record of two floats, as 01 has it: each operation of binary64 rounded once, in this order. Assumes nothing.
use Rattle.std.specs.Float.Ieee as Ieee
use Rattle.std.specs.Prelude.{Float}
use Rattle.std.specs.Float.{binary64}
use Rattle.complex.specs.declared.Complex.{Complex}

abbrev pub complex_of : Float → Float → Complex
complex_of a b = record { re = a; im = b }

-- re: a.re*b.re - a.im*b.im, im: a.re*b.im + a.im*b.re
unfoldable pub product : Complex → Complex → Complex
product a b =
    complex_of (Ieee.sub binary64 (Ieee.mul binary64 a.re b.re) (Ieee.mul binary64 a.im b.im))
    (Ieee.add binary64 (Ieee.mul binary64 a.re b.im) (Ieee.mul binary64 a.im b.re))

unfoldable pub sum_of : Complex → Complex → Complex
sum_of a b = complex_of (Ieee.add binary64 a.re b.re) (Ieee.add binary64 a.im b.im)

unfoldable pub difference : Complex → Complex → Complex
difference a b = complex_of (Ieee.sub binary64 a.re b.re) (Ieee.sub binary64 a.im b.im)

unfoldable pub negation : Complex → Complex
negation a = complex_of (Ieee.neg a.re) (Ieee.neg a.im)

-- the imaginary part negated
unfoldable pub conjugate : Complex → Complex
conjugate a = complex_of a.re (Ieee.neg a.im)

-- by a real number: each part
unfoldable pub scaled : Complex → Float → Complex
scaled a k = complex_of (Ieee.mul binary64 a.re k) (Ieee.mul binary64 a.im k)

-- a real number times it, the real number first
unfoldable pub times_real : Float → Complex → Complex
times_real k a = complex_of (Ieee.mul binary64 k a.re) (Ieee.mul binary64 k a.im)

-- divided by a real number: each part
unfoldable pub quotient : Complex → Float → Complex
quotient a k = complex_of (Ieee.div binary64 a.re k) (Ieee.div binary64 a.im k)

-- re*re + im*im
unfoldable pub norm_sqr : Complex → Float
norm_sqr a = Ieee.add binary64 (Ieee.mul binary64 a.re a.re) (Ieee.mul binary64 a.im a.im)
