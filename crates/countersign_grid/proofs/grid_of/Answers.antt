-- `grid::grid_of` meets its contract: the sign apart, the bits say it. Assumes nothing.
use mathlib.Core.Path.{sym, ap, subst, ◌∙◌}
use lib.Dec.{T}
use lib.Ieee.{binary64, fits}
use Rattle.std.specs.Option.{option_map}
use Rattle.countersign_grid.specs.Grid.{over_of, under_of}
use Rattle.countersign_grid.proofs.Sizes.{grid-plus, grid-minus, grid-none}
use Rattle.countersign_grid.proofs.grid_of.Goals as goal

pub returns-in_err-units : goal.returns-in_err-units
returns-in_err-units c =
    let held : T (fits binary64 c.args.x) = subst T (sym c.well_formed.0.1) tt in
    c.from_residual.ensures ∙ grid-none _ _ _ held c.bits_of-b.ensures c.grid_bits.ensures c.in_err-units.was

pub returns-then-b-lt9223372036854775808 : goal.returns-then-b-lt9223372036854775808
returns-then-b-lt9223372036854775808 c =
    let held : T (fits binary64 c.args.x) = subst T (sym c.well_formed.0.1) tt in
    sym (ap (option_map over_of) c.in_ok-units.was) ∙ grid-plus _ _ _ held c.bits_of-b.ensures c.grid_bits.ensures c.if-b-lt9223372036854775808.true

pub returns-else-b-lt9223372036854775808 : goal.returns-else-b-lt9223372036854775808
returns-else-b-lt9223372036854775808 c =
    let held : T (fits binary64 c.args.x) = subst T (sym c.well_formed.0.1) tt in
    sym (ap (option_map under_of) c.in_ok-units.was) ∙ grid-minus _ _ _ held c.bits_of-b.ensures c.grid_bits.ensures c.if-b-lt9223372036854775808.false
