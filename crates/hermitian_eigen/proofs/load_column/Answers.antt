use mathlib.Core.Path.{refl, ap, ◌∙◌}
use Prim.Native.Nat.{◌+◌, ◌*◌, ◌<◌}
use native.Mathlib.Nat.{mul-le-mul}
use native.Mathlib.Omega.{arith}
use lib.Arith.{digits_lt}
use Rattle.complex.proofs.Loops.{stop}
use Rattle.whole_numbers.proofs.WholeLaws.{column_fits}
use Rattle.svd_load.specs.Loading.{planes_to}
use Rattle.svd_load.proofs.LoadingLaws.{planes-none, planes-more}
use Rattle.hermitian_eigen.specs.Shifted.{shifted_cell, shifted_at}
use Rattle.hermitian_eigen.proofs.ShiftedLaws.{shifted_at_lem}
use borrow.Author.Rules.{rules}
use Rattle.hermitian_eigen.proofs.load_column.Goals as goal

pub overflow_mul-c : goal.overflow_mul-c
overflow_mul-c c = omega (arith, mul-le-mul c.requires.1 c.requires.1)

pub overflow_mul-to : goal.overflow_mul-to
overflow_mul-to c = omega (arith, column_fits c.args.col c.args.dim c.args.dim c.requires.0, mul-le-mul c.requires.1 c.requires.1)

pub loop-r-init : goal.loop-r-init
loop-r-init c = (search rules, refl, planes-none _ _ _ _)

pub overflow_add-to : goal.overflow_add-to
overflow_add-to c =
    let goal : let a = c.args in a.col * a.dim + c.loop-r.r < a.dim * a.dim = digits_lt c.requires.0 c.loop-r-test.true in
    omega (arith, goal)

pub read_cell-z-requires : goal.read_cell-z-requires
read_cell-z-requires c =
    let goal : let a = c.args in a.col * a.dim + c.loop-r.r < a.dim * a.dim = digits_lt c.requires.0 c.loop-r-test.true in
    omega (arith, goal)

pub overflow_add-to-in-loop-r : goal.overflow_add-to-in-loop-r
overflow_add-to-in-loop-r c =
    let goal : let a = c.args in a.col * a.dim + c.loop-r.r < a.dim * a.dim = digits_lt c.requires.0 c.loop-r-test.true in
    omega (arith, goal)

pub write_plane-requires : goal.write_plane-requires
write_plane-requires c =
    let goal : let a = c.args in a.col * a.dim + c.loop-r.r < a.dim * a.dim = digits_lt c.requires.0 c.loop-r-test.true in
    omega (arith, goal)

pub loop-r-preserved : goal.loop-r-preserved
loop-r-preserved c = (search rules, search rules, planes-more _ _ _ _ _ c.loop-r.invariant.2 (c.shifted.ensures ∙ ap (shifted_cell _ _) c.read_cell-z.ensures ∙ shifted_at_lem _ _ _ _ _ c.loop-r-test.true) c.write_plane.ensures)

pub returns : goal.returns
returns c = let a = c.args in stop (λ k. planes_to (a.dim * a.dim) (shifted_at a.shift a.matrix.now a.dim) (a.col * a.dim) k a.work.now) c.loop-r.invariant.2 (search rules) (search rules)
