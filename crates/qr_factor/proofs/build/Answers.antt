-- `qr_factor::build` meets its contract: both slices start as zeros, and the columns are the callee's. Assumes nothing.
use mathlib.Core.Path.{refl, ◌∙◌}
use Rattle.qr_passes.proofs.RoomLaws.{room-kept}
use Rattle.qr_factor.proofs.Whole.{built}
use Rattle.qr_factor.proofs.build.Goals as goal

pub add_columns-requires : goal.add_columns-requires
add_columns-requires c = room-kept c.requires refl c.zero_first.auto.s c.zero_first-2.auto.s

pub shape_of-q : goal.shape_of-q
shape_of-q c = c.add_columns.auto.q ∙ c.zero_first.auto.s

pub shape_of-r : goal.shape_of-r
shape_of-r c = c.add_columns.auto.r ∙ c.zero_first-2.auto.s

pub shape_of-v : goal.shape_of-v
shape_of-v c = c.add_columns.auto.v

pub returns : goal.returns
returns c = built _ _ _ _ c.args.q.now c.args.r.now c.requires c.zero_first.ensures c.zero_first-2.ensures c.add_columns.ensures
