-- `qr_factor::factor` meets its contract: the columns, their cells and the basis are the callees'. Assumes nothing.
use mathlib.Core.Path.{refl, ◌∙◌}
use native.Mathlib.Omega.{arith}
use Rattle.qr_passes.proofs.RoomLaws.{room-kept}
use Rattle.qr_factor.proofs.Whole.{factor-made}
use Rattle.qr_factor.proofs.factor.Goals as goal

pub build-rank-requires : goal.build-rank-requires
build-rank-requires c = room-kept c.requires.qr_room c.min-cap.ensures refl refl

pub lay_out-requires : goal.lay_out-requires
lay_out-requires c = let o = room-kept c.requires.qr_room c.min-cap.ensures refl refl in (c.build-rank.auto.q ∙ o.q-is, c.build-rank.auto.v ∙ o.v-is)

pub with_basis-requires : goal.with_basis-requires
with_basis-requires c = omega (arith, c.lay_out.auto.q, c.build-rank.auto.q, c.requires.in_bounds)

pub shape_of-q : goal.shape_of-q
shape_of-q c = c.with_basis.auto.q ∙ c.lay_out.auto.q ∙ c.build-rank.auto.q

pub shape_of-r : goal.shape_of-r
shape_of-r c = c.build-rank.auto.r

pub shape_of-v : goal.shape_of-v
shape_of-v c = c.lay_out.auto.v ∙ c.build-rank.auto.v

pub returns : goal.returns
returns c = factor-made _ _ _ c.min-cap.ensures c.build-rank.ensures c.lay_out.ensures c.with_basis.ensures
