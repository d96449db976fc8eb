-- `finish::floor_of` meets its contract: by the first value, or by there being none. Assumes nothing.
use Rattle.finish.proofs.OutcomeLaws.{floor-none, floor-some}
use Rattle.finish.proofs.floor_of.Goals as goal

pub returns-then-s-eq0 : goal.returns-then-s-eq0
returns-then-s-eq0 c = floor-none _ c.if-s-eq0.true

pub returns : goal.returns
returns c = floor-some _ c.if-s-eq0.false
