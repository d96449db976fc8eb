-- `numbers::sqrt_bits` meets its contract: each way through it is a lemma of `BitCases.antt`. Assumes nothing.
use native.Mathlib.Omega.{arith}
use Rattle.numbers.proofs.BitCases.{at_zero, at-infinity, at-minus-zero, at-root, at_rest}
use Rattle.numbers.proofs.sqrt_bits.Goals as goal
use Rattle.numbers.proofs.sqrt_bits.Goals.{then-b-eq9218868437227405312-via-then-b-eq9218868437227405312, then-b-eq9218868437227405312-via-else-b-eq9218868437227405312+then-b-eq9223372036854775808}

pub returns-then-b-eq0 : goal.returns-then-b-eq0
returns-then-b-eq0 c = at_zero _ c.if-b-eq0.true

pub returns-then-b-lt9218868437227405312 : goal.returns-then-b-lt9218868437227405312
returns-then-b-lt9218868437227405312 c = at-root _ _ (omega arith) c.if-b-lt9218868437227405312.true c.root_bits.ensures.0 c.root_bits.ensures.1

pub returns-then-b-eq9218868437227405312 : goal.returns-then-b-eq9218868437227405312
returns-then-b-eq9218868437227405312 c =
    elim c.then-b-eq9218868437227405312.branch [
      | then-b-eq9218868437227405312-via-then-b-eq9218868437227405312 w ↦ at-infinity _ w.if-b-eq9218868437227405312.true
      | then-b-eq9218868437227405312-via-else-b-eq9218868437227405312+then-b-eq9223372036854775808 w ↦ at-minus-zero _ w.if-b-eq9223372036854775808.true
    ]

pub returns : goal.returns
returns c = at_rest _ c.ranges.b.fits c.if-b-lt9218868437227405312.false c.if-b-eq9218868437227405312.false c.if-b-eq9223372036854775808.false
