-- `exact_roots::is_exact` meets its contract: each way through it is a law of `Marks.antt`. Assumes nothing.
use native.Mathlib.Omega.{arith}
use mathlib.Core.Path.{◌≡◌, ◌∙◌, sym, ap, subst}
use mathlib.Core.Bool.{true}
use Prim.Native.Nat.{ℕ, ◌-◌}
use lib.Dec.{T}
use lib.Ieee.{Float, binary64, fits}
use Rattle.numbers.proofs.Cases.{no_nan}
use Rattle.numbers.proofs.Scaling.{zeros-most, zeros-least, up_least, up-most}
use Rattle.exact_roots.proofs.Marks.{of_nan, of_zero, of-upper, root_below, root-no-nan, small-test, normal-test}
use Rattle.exact_roots.proofs.is_exact.Goals as goal

-- what owning an `f64` tells: the format holds it
held : (x : Float) → fits binary64 x ≡ true → T (fits binary64 x)
held x e = subst T (sym e) tt

pub returns-then-x : goal.returns-then-x
returns-then-x c = sym (of_nan _ c.if-x.true)

pub float_to_bits-b : goal.float_to_bits-b
float_to_bits-b c = no_nan _ c.if-x.false

pub returns-then-b-ge9218868437227405312 : goal.returns-then-b-ge9218868437227405312
returns-then-b-ge9218868437227405312 c =
    of-upper _ (held _ c.well_formed.0.1) c.if-b-ge9218868437227405312.true

pub returns-then-b-eq0 : goal.returns-then-b-eq0
returns-then-b-eq0 c =
    sym (of_zero _ (held _ c.well_formed.0.1) c.if-b-eq0.true)

pub float_to_bits-a : goal.float_to_bits-a
float_to_bits-a c =
    root-no-nan _ _ (held _ c.well_formed.0.1) c.requires (omega arith) c.if-b-ge9218868437227405312.false

pub overflow_sub-z : goal.overflow_sub-z
overflow_sub-z c = omega (arith, zeros-least _ (omega arith) c.if-b-lt4503599627370496.true)

pub overflow_shl-b : goal.overflow_shl-b
overflow_shl-b c = omega (arith, zeros-most _ (omega arith) c.if-b-lt4503599627370496.true)

pub overflow_sub-z-then-b-lt4503599627370496 : goal.overflow_sub-z-then-b-lt4503599627370496
overflow_sub-z-then-b-lt4503599627370496 c = omega (arith, zeros-most _ (omega arith) c.if-b-lt4503599627370496.true)

pub squares_to-requires : goal.squares_to-requires
squares_to-requires c =
    (up_least _ (omega arith) c.if-b-lt4503599627370496.true _ (ap (λ (v : ℕ). v - 11) c.from-z.ensures), up-most _ (omega arith) c.if-b-lt4503599627370496.true _ (ap (λ (v : ℕ). v - 11) c.from-z.ensures), omega arith, root_below _ _ (held _ c.well_formed.0.1) c.requires (omega arith) c.if-b-ge9218868437227405312.false)

pub returns-then-b-lt4503599627370496 : goal.returns-then-b-lt4503599627370496
returns-then-b-lt4503599627370496 c =
    c.squares_to.ensures ∙ small-test _ _ (held _ c.well_formed.0.1) c.requires (omega arith) c.if-b-ge9218868437227405312.false _ c.if-b-lt4503599627370496.true (ap (λ (v : ℕ). v - 11) c.from-z.ensures)

pub squares_to-requires-2 : goal.squares_to-requires-2
squares_to-requires-2 c =
    (omega arith, omega arith, omega arith, root_below _ _ (held _ c.well_formed.0.1) c.requires (omega arith) c.if-b-ge9218868437227405312.false)

pub returns : goal.returns
returns c =
    c.squares_to-2.ensures ∙ normal-test _ _ (held _ c.well_formed.0.1) c.requires (omega arith) c.if-b-ge9218868437227405312.false c.if-b-lt4503599627370496.false
