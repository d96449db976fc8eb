use mathlib.Core.Path.{sym, ◌∙◌}
use native.Mathlib.Omega.{arith}
use lib.Seq.{length-take-le}
use Rattle.chain_link.proofs.LinkSizes.{link_sizes, step-sizes, site-fits, one-linked}
use Rattle.chain_link.proofs.one_link.Goals as goal

pub overflow_mul-need-2 : goal.overflow_mul-need-2
overflow_mul-need-2 c =
    let z = link_sizes _ _ _ _ _ _ _ _ _ c.requires c.bit-columns.ensures c.smaller_size-k.ensures in
    omega arith

pub overflow_add-need : goal.overflow_add-need
overflow_add-need c =
    let z = link_sizes _ _ _ _ _ _ _ _ _ c.requires c.bit-columns.ensures c.smaller_size-k.ensures in
    omega arith

pub slice_bounds-step-end-2 : goal.slice_bounds-step-end-2
slice_bounds-step-end-2 c =
    let z = link_sizes _ _ _ _ _ _ _ _ _ c.requires c.bit-columns.ensures c.smaller_size-k.ensures in
    omega arith

pub slice_bounds-step-end-3 : goal.slice_bounds-step-end-3
slice_bounds-step-end-3 c =
    let z = link_sizes _ _ _ _ _ _ _ _ _ c.requires c.bit-columns.ensures c.smaller_size-k.ensures in
    sym (length-take-le _ _ (omega arith))

pub slice_bounds-step-end-4 : goal.slice_bounds-step-end-4
slice_bounds-step-end-4 c =
    let z = link_sizes _ _ _ _ _ _ _ _ _ c.requires c.bit-columns.ensures c.smaller_size-k.ensures in
    omega arith

pub slice_bounds-step-end-5 : goal.slice_bounds-step-end-5
slice_bounds-step-end-5 c =
    let z = link_sizes _ _ _ _ _ _ _ _ _ c.requires c.bit-columns.ensures c.smaller_size-k.ensures in
    sym (length-take-le _ _ (omega arith))

pub slice_bounds-step-end-6 : goal.slice_bounds-step-end-6
slice_bounds-step-end-6 c =
    let z = link_sizes _ _ _ _ _ _ _ _ _ c.requires c.bit-columns.ensures c.smaller_size-k.ensures in
    omega arith

pub slice_bounds-step-end-7 : goal.slice_bounds-step-end-7
slice_bounds-step-end-7 c =
    let z = link_sizes _ _ _ _ _ _ _ _ _ c.requires c.bit-columns.ensures c.smaller_size-k.ensures in
    sym (length-take-le _ _ (omega arith))

pub step-requires : goal.step-requires
step-requires c =
    let z = link_sizes _ _ _ _ _ _ _ _ _ c.requires c.bit-columns.ensures c.smaller_size-k.ensures in (
      step-sizes _ _ _ _ _ _ _ _ _ _ _ _ c.requires c.bit-columns.ensures c.smaller_size-k.ensures
          (length-take-le _ _ (omega arith)) (length-take-le _ _ (omega arith)) (length-take-le _ _ (omega arith)),
      site-fits _ _ _ _ _ c.args.sites.now _ _ _ c.requires c.bit-columns.ensures,
    )

pub returns : goal.returns
returns c =
    let z = link_sizes _ _ _ _ _ _ _ _ _ c.requires c.bit-columns.ensures c.smaller_size-k.ensures in
    one-linked _ _ _ _ _ _ _ _ _ _ _ c.bit-columns.ensures (c.step.auto.u ∙ length-take-le _ _ (omega arith)) c.step.ensures
