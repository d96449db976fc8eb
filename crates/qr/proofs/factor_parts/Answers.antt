-- `qr::factor_parts` meets its contract: the factors, then zeros in the scratch, then the answer 9 where a number is not finite. Assumes nothing.
use mathlib.Core.Path.{◌∙◌}
use Rattle.qr.proofs.CallLaws.{finished_as}
use Rattle.qr_passes.proofs.GramSchmidtLaws.{zeroed-all}
use Rattle.qr.proofs.factor_parts.Goals as goal

pub factor-rank-requires : goal.factor-rank-requires
factor-rank-requires c = record { qr_room = c.requires.qr_room; in_bounds = c.requires.in_bounds }

pub returns : goal.returns
returns c = record { is = finished_as c.factor-rank.ensures c.settle.ensures; cleared = c.zero_first.ensures ∙ zeroed-all c.factor-rank.new.v c.factor-rank.auto.v }
