-- `modulus::scaled` meets its contract: the larger bits tell `leading` of the larger size (`Ways.antt`). Assumes nothing.
use Rattle.modulus.proofs.Ways.{field-most, at-normal, left-small, right-small, at_zero, at-faint}
use native.Mathlib.Omega.{arith}
use Rattle.modulus.proofs.scaled.Goals as goal

pub returns-then-m-eq0 : goal.returns-then-m-eq0
returns-then-m-eq0 c = at_zero _ _ _ _ _ c.size_bits.ensures c.size_bits-2.ensures c.max-m.ensures c.if-m-lt4503599627370496.true c.if-m-eq0.true

pub faint-requires : goal.faint-requires
faint-requires c = (omega (arith, c.if-m-eq0.false), c.if-m-lt4503599627370496.true, c.requires.0, c.requires.1, left-small _ _ _ _ _ c.size_bits.ensures c.size_bits-2.ensures c.max-m.ensures c.if-m-lt4503599627370496.true, right-small _ _ _ _ _ c.size_bits.ensures c.size_bits-2.ensures c.max-m.ensures c.if-m-lt4503599627370496.true)

pub returns-then-m-lt4503599627370496 : goal.returns-then-m-lt4503599627370496
returns-then-m-lt4503599627370496 c = at-faint _ _ _ _ _ c.size_bits.ensures c.size_bits-2.ensures c.max-m.ensures c.if-m-lt4503599627370496.true c.if-m-eq0.false _ c.faint.ensures

pub normal-requires : goal.normal-requires
normal-requires c = (omega (arith, c.if-m-lt4503599627370496.false), field-most _ _ _ _ _ c.size_bits.ensures c.size_bits-2.ensures c.max-m.ensures, c.requires.0, c.requires.1)

pub returns : goal.returns
returns c = at-normal _ _ _ _ _ c.size_bits.ensures c.size_bits-2.ensures c.max-m.ensures c.if-m-lt4503599627370496.false _ c.normal.ensures
