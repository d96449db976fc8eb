-- `pages::same_densities` meets its contract: the tables, and then the blocks, which are the same. Assumes nothing.
use mathlib.Core.List.{List}
use mathlib.Core.Path.{ap, ap₂, ◌∙◌}
use Prim.Native.Nat.{ℕ, ◌-◌}
use native.Mathlib.Omega.{arith}
use lib.ListN.{get_or}
use Rattle.qubit_offsets.proofs.CallLaws.{offset_at}
use Rattle.density_recount.proofs.RecountLaws.{layout-room, layout_is, layout-scale}
use Rattle.pages.proofs.AgreeLaws.{held_small, held-state, held-matrix, held_same}
use Rattle.pages.proofs.same_densities.Goals as goal

pub layout_of-z-requires : goal.layout_of-z-requires
layout_of-z-requires c = layout-room c.args.list.now c.args.n c.requires.parted _ _ c.sides_of-s.ensures c.bit-size.ensures

pub fill_offsets-requires : goal.fill_offsets-requires
fill_offsets-requires c = record { listed = c.requires.parted.listed; count_in_bounds = held_small _ _ _ _ c.requires _ c.bit-dim.ensures }

pub fill_numbers-requires : goal.fill_numbers-requires
fill_numbers-requires c = let scale = layout-scale c.args.list.now c.args.n c.requires.parted _ _ c.sides_of-s.ensures c.bit-size.ensures _ c.layout_of-z.ensures in record { listed = c.requires.parted.listed; mask_value = (c.mask_of-named.ensures.0, scale, held_small _ _ _ _ c.requires _ c.bit-dim.ensures) }

pub same_rows-requires : goal.same_rows-requires
same_rows-requires c = let dim = c.bit-dim.ensures in
    let e = layout_is c.args.list.now c.args.n c.requires.parted _ _ c.sides_of-s.ensures c.bit-size.ensures _ c.layout_of-z.ensures in
    let small = held_small _ _ _ _ c.requires _ dim in record {
      entries_ready = (
        held-state _ _ _ _ c.requires _ dim _ _ (ap₂ (λ (x y : ℕ). x - 1 - y) c.bit-size.ensures c.mask_of-named.ensures.0)
            (λ k h. ap (λ (t : List ℕ). get_or t k 0) c.fill_offsets.ensures ∙ offset_at _ _ _ k h) (omega (arith, small, c.fill_offsets.auto.out)),
        held-matrix _ _ _ _ c.requires _ dim _ e _ _ c.fill_numbers.ensures small,
      );
      dim_bound = small;
    }

pub returns : goal.returns
returns c =
    let e = layout_is c.args.list.now c.args.n c.requires.parted _ _ c.sides_of-s.ensures c.bit-size.ensures _ c.layout_of-z.ensures in
    held_same _ _ _ _ c.requires _ c.bit-dim.ensures _ e _ _ _ _ _ _ (ap₂ (λ (x y : ℕ). x - 1 - y) c.bit-size.ensures c.mask_of-named.ensures.0) c.bit-groups.ensures
    (λ k h. ap (λ (t : List ℕ). get_or t k 0) c.fill_offsets.ensures ∙ offset_at _ _ _ k h) c.fill_numbers.ensures c.same_rows.ensures
