use mathlib.Core.Path.{◌≡◌}
use Prim.Native.Nat.{◌*◌, ◌+◌, ◌<◌}
use native.Mathlib.Omega.{arith}
use lib.Arith.{digits_lt}
use Rattle.eigen_pair.proofs.CellPlanesLaws.{plane-re}
use Rattle.eigen_sweeps.proofs.SweepingLaws.{largest-none, largest-more}
use Rattle.eigen_sweeps.proofs.largest_diagonal.Goals as goal

pub loop-i-init : goal.loop-i-init
loop-i-init c = (omega arith, largest-none _ _)

pub overflow_mul-at : goal.overflow_mul-at
overflow_mul-at c =
    let at : let n = c.args.n in c.loop-i.i * n + c.loop-i.i < n * n = digits_lt c.loop-i-test.true c.loop-i-test.true in
    omega (arith, at)

pub overflow_mul-at-in-loop-i : goal.overflow_mul-at-in-loop-i
overflow_mul-at-in-loop-i c =
    let at : let n = c.args.n in c.loop-i.i * n + c.loop-i.i < n * n = digits_lt c.loop-i-test.true c.loop-i-test.true in
    omega (arith, at, c.requires.cells)

pub overflow_add-at : goal.overflow_add-at
overflow_add-at c =
    let at : let n = c.args.n in c.loop-i.i * n + c.loop-i.i < n * n = digits_lt c.loop-i-test.true c.loop-i-test.true in
    omega (arith, at)

pub offset_bounds-xs-at : goal.offset_bounds-xs-at
offset_bounds-xs-at c =
    let at : let n = c.args.n in c.loop-i.i * n + c.loop-i.i < n * n = digits_lt c.loop-i-test.true c.loop-i-test.true in
    omega (arith, at, c.requires.cells)

pub bounds-xs-at : goal.bounds-xs-at
bounds-xs-at c =
    let at : let n = c.args.n in c.loop-i.i * n + c.loop-i.i < n * n = digits_lt c.loop-i-test.true c.loop-i-test.true in
    omega (arith, at, c.requires.cells)

pub loop-i-preserved : goal.loop-i-preserved
loop-i-preserved c =
    let at : let n = c.args.n in c.loop-i.i * n + c.loop-i.i < n * n = digits_lt c.loop-i-test.true c.loop-i-test.true in
    let a = c.args in
    (omega arith, largest-more _ _ _ c.loop-i.invariant.1 (plane-re (a.n * a.n) (c.loop-i.i * a.n + c.loop-i.i) a.xs.now at) c.larger_of-largest.ensures)

pub returns : goal.returns
returns c =
    let e : c.loop-i.i ≡ c.args.n = omega arith in rw e at c.loop-i.invariant.1
