-- `numbers::sqrt` meets its contract: each way through it is a lemma of `Cases.antt`. Assumes nothing.
use mathlib.Core.Path.{◌≡◌, sym, subst}
use native.Mathlib.Omega.{arith}
use mathlib.Core.Bool.{true}
use lib.Dec.{T}
use lib.Ieee.{Float, binary64, fits}
use Rattle.numbers.specs.Root.{Sqrt, sqrt_of}
use Rattle.numbers.proofs.Cases.{of_nan, no_nan, of-minus-zero, of_zero, of-infinity, of-root, of-rest, root-no-nan}
use Rattle.numbers.proofs.Right.{sqrt-is}
use Rattle.numbers.proofs.sqrt.Goals as goal
use Rattle.numbers.proofs.sqrt.Goals.{then-b-eq9218868437227405312-via-then-b-eq9218868437227405312, then-b-eq9218868437227405312-via-else-b-eq9218868437227405312+then-b}

-- what owning an `f64` tells: the format holds it
held : (x : Float) → fits binary64 x ≡ true → T (fits binary64 x)
held x e = subst T (sym e) tt

both : (x r : Float) → fits binary64 x ≡ true → Sqrt x r → record { is : r ≡ sqrt_of x; nearest : Sqrt x r }
both x r e p = record { is = sqrt-is x r (held x e) p; nearest = p }

pub returns-then-x : goal.returns-then-x
returns-then-x c = both _ _ c.well_formed.0.1 (of_nan _ _ c.if-x.true c.not_a_number.ensures)

pub float_to_bits-b : goal.float_to_bits-b
float_to_bits-b c = no_nan _ c.if-x.false

pub returns-then-b-eq0 : goal.returns-then-b-eq0
returns-then-b-eq0 c = both _ _ c.well_formed.0.1 (of_zero _ (held _ c.well_formed.0.1) c.if-b-eq0.true)

pub float_from_bits-result : goal.float_from_bits-result
float_from_bits-result c = root-no-nan _ _ c.root_bits.ensures.0 c.root_bits.ensures.1

pub returns-then-b-lt9218868437227405312 : goal.returns-then-b-lt9218868437227405312
returns-then-b-lt9218868437227405312 c = both _ _ c.well_formed.0.1 (of-root _ _ (held _ c.well_formed.0.1) (omega arith) c.if-b-lt9218868437227405312.true c.root_bits.ensures.0 c.root_bits.ensures.1)

pub returns-then-b-eq9218868437227405312 : goal.returns-then-b-eq9218868437227405312
returns-then-b-eq9218868437227405312 c =
    elim c.then-b-eq9218868437227405312.branch [
      | then-b-eq9218868437227405312-via-then-b-eq9218868437227405312 w ↦ both _ _ c.well_formed.0.1 (of-infinity _ (held _ c.well_formed.0.1) w.if-b-eq9218868437227405312.true)
      | then-b-eq9218868437227405312-via-else-b-eq9218868437227405312+then-b w ↦ both _ _ c.well_formed.0.1 (of-minus-zero _ (held _ c.well_formed.0.1) w.if-b.true)
    ]

pub returns : goal.returns
returns c = both _ _ c.well_formed.0.1 (of-rest _ _ (held _ c.well_formed.0.1) c.if-b-lt9218868437227405312.false c.if-b-eq9218868437227405312.false c.if-b.false c.not_a_number-2.ensures)
