-- `grid::grid_bits` meets its contract: each way out is a case of `Units`. Assumes nothing.
use Rattle.countersign_grid.proofs.Units.{bits-zero, bits-large, bits-low, bits-off, bits-on, power-is}
use Rattle.countersign_grid.proofs.grid_bits.Goals as goal

pub returns-then-b-eq0 : goal.returns-then-b-eq0
returns-then-b-eq0 c = bits-zero _ c.if-b-eq0.true

pub returns-then-b-gt4607182418800017408 : goal.returns-then-b-gt4607182418800017408
returns-then-b-gt4607182418800017408 c = bits-large _ c.if-b-gt4607182418800017408.true

pub returns-then-e-lt1005 : goal.returns-then-e-lt1005
returns-then-e-lt1005 c = bits-low _ c.if-b-eq0.false c.if-b-gt4607182418800017408.false c.if-e-lt1005.true

pub returns-then-digits-power-ne0 : goal.returns-then-digits-power-ne0
returns-then-digits-power-ne0 c = bits-off _ c.if-b-gt4607182418800017408.false c.if-e-lt1005.false _ (power-is _ c.if-b-gt4607182418800017408.false c.if-e-lt1005.false) c.if-digits-power-ne0.true

pub returns : goal.returns
returns c = bits-on _ c.if-b-gt4607182418800017408.false c.if-e-lt1005.false _ (power-is _ c.if-b-gt4607182418800017408.false c.if-e-lt1005.false) c.if-digits-power-ne0.false
