-- `svd::factor` meets its contract: the work matrix is loaded, and its thin SVD is the wide or the tall case's. Assumes nothing.
use mathlib.Core.Path.{sym, ◌∙◌}
use Prim.Native.Nat.{◌*◌, ◌≤◌}
use native.Mathlib.Nat.{mul_comm}
use lib.ListN.{length}
use native.Mathlib.Omega.{arith}
use lib.Seq.{length-take-le, take_at}
use Rattle.svd.proofs.SvdLaws.{wide-lent, tall-lent, wide-made, tall-made}
use borrow.Author.Rules.{rules}
use Rattle.svd.proofs.factor.Goals as goal

pub slice_bounds-load_wide-end : goal.slice_bounds-load_wide-end
slice_bounds-load_wide-end c = omega (arith, c.requires.scratch-is)

pub slice_bounds-load_wide-end-then-m-n : goal.slice_bounds-load_wide-end-then-m-n
slice_bounds-load_wide-end-then-m-n c = sym (length-take-le _ _ (omega (arith, c.requires.scratch-is)))

pub load_wide-requires : goal.load_wide-requires
load_wide-requires c = (search rules, search rules, length-take-le _ _ (omega (arith, c.requires.scratch-is)))

pub factor-requires : goal.factor-requires
factor-requires c = wide-lent _ _ _ _ _ _ _ _ c.if-m-n.true c.requires (search rules)

pub returns-then-m-n : goal.returns-then-m-n
returns-then-m-n c =
    let h : 2 * (c.args.m * c.args.n) ≤ length c.args.scratch.now = omega (arith, c.requires.scratch-is) in
    let loaded = c.load_wide in
    wide-made _ _ _ c.if-m-n.true (take_at _ _ _ (loaded.auto.work ∙ length-take-le _ _ h) ∙ loaded.ensures) c.factor.ensures

pub overflow_mul-c : goal.overflow_mul-c
overflow_mul-c c = omega (arith, mul_comm c.args.n c.args.m, c.requires.cells)

pub overflow_mul-w-2 : goal.overflow_mul-w-2
overflow_mul-w-2 c = omega (arith, mul_comm c.args.n c.args.m, c.requires.cells)

pub slice_bounds-load_tall-end : goal.slice_bounds-load_tall-end
slice_bounds-load_tall-end c = omega (arith, mul_comm c.args.n c.args.m, c.requires.scratch-is)

pub slice_bounds-load_tall-end-2 : goal.slice_bounds-load_tall-end-2
slice_bounds-load_tall-end-2 c = sym (length-take-le _ _ (omega (arith, mul_comm c.args.n c.args.m, c.requires.scratch-is)))

pub load_tall-requires : goal.load_tall-requires
load_tall-requires c = (omega (arith, mul_comm c.args.n c.args.m, c.requires.a-is), length-take-le _ _ (omega (arith, mul_comm c.args.n c.args.m, c.requires.scratch-is)))

pub factor-requires-2 : goal.factor-requires-2
factor-requires-2 c = tall-lent _ _ _ _ _ _ _ _ c.if-m-n.false c.requires (search rules)

pub returns : goal.returns
returns c =
    let h : 2 * (c.args.n * c.args.m) ≤ length c.args.scratch.now =
    omega (arith, mul_comm c.args.n c.args.m, c.requires.scratch-is) in
    let loaded = c.load_tall in
    tall-made _ _ _ c.if-m-n.false (take_at _ _ _ (loaded.auto.work ∙ length-take-le _ _ h) ∙ loaded.ensures) c.factor-2.ensures
