-- `finish::finish_marked` meets its contract: the sorted values stand at the front of the output, and past them it is as it was. Assumes nothing.
use lib.ListN.{length, drop, length-append}
use mathlib.Core.Path.{sym}
use native.Mathlib.Omega.{arith}
use lib.Seq.{length-take-le}
use Rattle.finish.proofs.OutcomeLaws.{finished-made}
use Rattle.finish.proofs.finish_marked.Goals as goal

pub slice_bounds-sort_down-end-2 : goal.slice_bounds-sort_down-end-2
slice_bounds-sort_down-end-2 c = sym (length-take-le _ _ c.requires)

pub sort_down-requires : goal.sort_down-requires
sort_down-requires c = length-take-le _ _ c.requires

pub slice_bounds-finish_sorted-end-2 : goal.slice_bounds-finish_sorted-end-2
slice_bounds-finish_sorted-end-2 c = let n = length c.args.values.now in sym (length-take-le _ _ (omega (arith, length-append c.sort_down.new.sorted (drop n c.args.out.now), c.sort_down.auto.sorted, length-take-le n c.args.out.now c.requires)))

pub returns : goal.returns
returns c = finished-made _ _ _ _ _ c.sort_down.ensures c.finish_sorted.ensures
