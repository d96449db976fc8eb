-- `root_guesses::is_root` meets its contract (`Guess.antt`). Assumes nothing.
use Rattle.std.proofs.Common.{◌+◌, ◌/◌, ◌^◌, T, sym, subst, arith}
use lib.Ieee.{binary64, fits, to_bits}
use Rattle.numbers.specs.Steps.{digits}
use Rattle.numbers.proofs.Cases.{no_nan}
use Rattle.numbers.proofs.Scaling.{in-range}
use Rattle.root_guesses.proofs.Guess.{half-most, half-exponent, is-the-root}
use Rattle.root_guesses.proofs.is_root.Goals as goal

pub float_to_bits-b : goal.float_to_bits-b
float_to_bits-b c = no_nan _ c.if-x.false

pub float_to_bits-a : goal.float_to_bits-a
float_to_bits-a c = no_nan _ c.if-t.false

pub is_nearest-requires : goal.is_nearest-requires
is_nearest-requires c = let r = in-range (digits (to_bits binary64 c.args.x)) (to_bits binary64 c.args.x / 2 ^ 52 + 51) (omega arith) (omega arith) in (r.0, r.1, omega arith, omega arith)

pub returns : goal.returns
returns c =
    let held_x : T (fits binary64 c.args.x) = subst T (sym c.well_formed.0.1) tt in
    let held-t : T (fits binary64 c.args.t) = subst T (sym c.well_formed.1.0.1) tt in
    λ h. is-the-root _ _ (held_x) (held-t) c.if-b-lt4503599627370496.false (half-most _ c.if-b-lt4503599627370496.false c.if-half-ge1023.false) (half-exponent _ _ c.if-b-lt4503599627370496.false c.if-a-half.false) (c.is_nearest.ensures h)
