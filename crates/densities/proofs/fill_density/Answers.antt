-- `densities::fill_density` meets its contract: the table, the lower half and the mirror hand on to each other by the laws of `DensityLaws`. Assumes nothing.
use mathlib.Core.Path.{◌∙◌, ap}
use mathlib.Core.List.{List}
use Prim.Native.Nat.{ℕ}
use native.Mathlib.Omega.{arith}
use lib.ListN.{length, get_or}
use Rattle.qubit_offsets.proofs.CallLaws.{offset_at}
use Rattle.densities.proofs.DensityLaws.{side-small, density-square, density-few, density-ready, density-end}
use Rattle.densities.proofs.fill_density.Goals as goal

pub fill_offsets-requires-clause-count_in_bounds : goal.fill_offsets-requires-clause-count_in_bounds
fill_offsets-requires-clause-count_in_bounds c = rw c.bit-dim.ensures (side-small (length c.args.list.now) c.requires.0.few)

pub fill_lower-requires-clause-entries_ready : goal.fill_lower-requires-clause-entries_ready
fill_lower-requires-clause-entries_ready c =
    let small = side-small (length c.args.list.now) c.requires.0.few in (
      density-ready _ _ _ c.args.out.now c.requires.0 _ _ _ c.bit-dim.ensures
          (λ k h. ap (λ (t : List ℕ). get_or t k 0) c.fill_offsets.ensures ∙ offset_at _ _ _ k h)
          (omega (arith, small, c.bit-dim.ensures, c.fill_offsets.auto.out)) c.requires.1,
      c.requires.0.allowed,
    )

pub fill_lower-requires-clause-square : goal.fill_lower-requires-clause-square
fill_lower-requires-clause-square c =
    (density-square _ _ _ _ c.requires.0 _ c.bit-dim.ensures, density-few _ _ _ c.args.out.now c.requires.0 _ _ c.bit-dim.ensures c.bit-groups.ensures)

pub mirror-requires : goal.mirror-requires
mirror-requires c =
    let q = density-square c.args.state.now c.args.n c.args.list.now c.args.out.now c.requires.0 _ c.bit-dim.ensures in
    record { small = q.small; room = omega (arith, q.room, c.fill_lower.ensures.long) }

pub returns : goal.returns
returns c =
    density-end _ _ _ _ c.requires.0 _ _ _ _ _ _ c.bit-dim.ensures
    (λ k h. ap (λ (t : List ℕ). get_or t k 0) c.fill_offsets.ensures ∙ offset_at _ _ _ k h) c.requires.1 c.bit-groups.ensures
    c.fill_lower.ensures c.mirror.ensures
