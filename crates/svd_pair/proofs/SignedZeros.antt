-- A turn without the products by zeros gives another zero. By computation; assumes nothing.
use mathlib.Core.Path.{◌≡◌, refl}
use lib.Ieee as Ieee
use lib.Ieee.{binary64, of_bits, to_bits, of_fields, odd, round, units}
use Rattle.complex.specs.declared.Complex.{Complex}
use Rattle.complex.specs.Arithmetic.{complex_of, product, sum_of, negation, conjugate, times_real}
use Rattle.complex.specs.Zeros.{zero_float}
use Rattle.svd_pair.specs.declared.Factors.{Factors}
use Rattle.numbers.specs.Numbers.{one_float}
use Rattle.svd_pair.specs.Turns.{turn_factors, new_p}
use Rattle.svd_pair.specs.Plain.{plain_p}

-- no angle, and the phase 1
abbrev still : Factors
still = turn_factors one_float zero_float (complex_of one_float zero_float)

-- the cells (-0, -1) and (-1, 1)
abbrev ap : Complex
ap = complex_of (Ieee.neg zero_float) (Ieee.neg one_float)

abbrev aq : Complex
aq = complex_of (Ieee.neg one_float) one_float

pub plus-zero : to_bits binary64 (new_p still ap aq).re ≡ 0
unfolding new_p turn_factors product sum_of negation conjugate of_bits to_bits of_fields odd round units Ieee.add Ieee.sub Ieee.mul Ieee.neg Ieee.sum Ieee.size Ieee.span Ieee.climb
plus-zero = refl

pub minus-zero : to_bits binary64 (plain_p still ap aq).re ≡ 0x8000_0000_0000_0000
unfolding plain_p turn_factors product sum_of negation conjugate times_real of_bits to_bits of_fields odd round units Ieee.add Ieee.sub Ieee.mul Ieee.neg Ieee.sum Ieee.size Ieee.span Ieee.climb
minus-zero = refl
