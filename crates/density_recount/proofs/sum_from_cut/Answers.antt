-- `density_recount::sum_from_cut` meets its contract: the layout, the table, the lower half and the mirror hand on to each other by the laws of
-- `RecountLaws`. Assumes nothing.
use native.Mathlib.Omega.{arith}
use lib.ListN.{length}
use Rattle.densities.proofs.DensityLaws.{side-small}
use Rattle.density_recount.proofs.RecountLaws.{layout-room, layout_is, layout-scale, recount-square, recount-ready, recount-end}
use Rattle.density_recount.proofs.sum_from_cut.Goals as goal

pub layout_of-z-requires : goal.layout_of-z-requires
layout_of-z-requires c =
    layout-room c.args.list.now c.args.n c.requires.parted _ _ c.sides_of-s.ensures c.bit.ensures

pub fill_numbers-requires : goal.fill_numbers-requires
fill_numbers-requires c = let scale = layout-scale c.args.list.now c.args.n c.requires.parted _ _ c.sides_of-s.ensures c.bit.ensures _ c.layout_of-z.ensures in record { listed = c.requires.parted.listed; mask_value = (c.mask_of-mask.ensures.0, scale, rw c.bit-dim.ensures (side-small (length c.args.list.now) c.requires.few)) }

pub fill_lower-requires : goal.fill_lower-requires
fill_lower-requires c = let e = layout_is c.args.list.now c.args.n c.requires.parted _ _ c.sides_of-s.ensures c.bit.ensures _ c.layout_of-z.ensures in
    let d = c.bit-dim.ensures in record {
      entries_ready = recount-ready c.args.matrix.now c.args.n c.args.list.now c.args.out.now c.requires _ e _ _ _ d c.fill_numbers.ensures
          (rw d (side-small (length c.args.list.now) c.requires.few));
      square = recount-square c.args.matrix.now c.args.n c.args.list.now c.args.out.now c.requires _ e _ d;
    }

pub mirror-requires : goal.mirror-requires
mirror-requires c =
    let e = layout_is c.args.list.now c.args.n c.requires.parted _ _ c.sides_of-s.ensures c.bit.ensures _ c.layout_of-z.ensures in
    let q = recount-square c.args.matrix.now c.args.n c.args.list.now c.args.out.now c.requires _ e _ c.bit-dim.ensures in
    record { small = q.small; room = omega (arith, q.room, c.fill_lower.ensures.long) }

pub returns : goal.returns
returns c =
    let e = layout_is c.args.list.now c.args.n c.requires.parted _ _ c.sides_of-s.ensures c.bit.ensures _ c.layout_of-z.ensures in
    recount-end c.args.matrix.now c.args.n c.args.list.now c.args.out.now c.requires _ e _ _ _ _ _ _ c.bit-dim.ensures
    c.fill_numbers.ensures c.bit-groups.ensures c.fill_lower.ensures c.mirror.ensures
