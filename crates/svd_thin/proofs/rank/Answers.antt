-- `svd_thin::rank` meets its contract: the norms are sorted where they were put, and the order stands behind the work matrix. Assumes nothing.
use mathlib.Core.Path.{sym, ◌∙◌}
use Prim.Native.Nat.{◌+◌, ◌*◌, ◌≤◌}
use native.Mathlib.Omega.{arith}
use lib.ListN.{length}
use lib.Seq.{length-take-le}
use Rattle.svd_thin.proofs.ThinLaws.{side-fits, part_length, ranked-made}
use borrow.Author.Rules.{rules}
use Rattle.svd_thin.proofs.rank.Goals as goal

pub slice_bounds-norms-end-2 : goal.slice_bounds-norms-end-2
slice_bounds-norms-end-2 c = sym (length-take-le _ _ (omega (arith, c.requires.scratch-is)))

pub slice_bounds-norms-end-3 : goal.slice_bounds-norms-end-3
slice_bounds-norms-end-3 c = omega (arith, side-fits c.args.side, c.requires.other-is)

pub slice_bounds-norms-end-4 : goal.slice_bounds-norms-end-4
slice_bounds-norms-end-4 c = sym (length-take-le _ _ (omega (arith, side-fits c.args.side, c.requires.other-is)))

pub norms-requires : goal.norms-requires
norms-requires c = (search rules, length-take-le _ _ (omega (arith, c.requires.scratch-is)), length-take-le _ _ (omega (arith, side-fits c.args.side, c.requires.other-is)))

pub slice_bounds-sort-end : goal.slice_bounds-sort-end
slice_bounds-sort-end c = omega (arith, side-fits c.args.side, c.requires.other-is)

pub slice_bounds-sort-end-2 : goal.slice_bounds-sort-end-2
slice_bounds-sort-end-2 c = sym (length-take-le _ _ (omega (arith, side-fits c.args.side, c.requires.other-is)))

pub sort-requires : goal.sort-requires
sort-requires c = (search rules, length-take-le _ _ (omega (arith, side-fits c.args.side, c.requires.other-is)), search rules, part_length (2 * (c.args.side * c.args.rows)) c.args.side c.args.scratch.now (omega (arith, c.requires.scratch-is)))

pub returns : goal.returns
returns c =
    let fits : 2 * (c.args.side * c.args.rows) + c.args.side ≤ length c.args.scratch.now = omega (arith, c.requires.scratch-is) in
    ranked-made _ _ _ _ fits
    (c.norms.auto.s ∙ length-take-le _ _ (omega (arith, side-fits c.args.side, c.requires.other-is)))
    c.norms.ensures
    (c.sort.auto.order ∙ part_length _ _ _ fits)
    c.sort.ensures.0
    c.sort.ensures.1
