use mathlib.Core.Path.{◌≡◌, refl}
use Prim.Native.Nat.{◌*◌, ◌+◌, ◌<◌}
use native.Mathlib.Omega.{arith}
use lib.ListN.{length-set}
use Rattle.eigen_pair.specs.CellPlanes.{as_planes}
use Rattle.eigen_pair.proofs.CellPlanesLaws.{plane-re}
use lib.Arith.{digits_lt}
use Rattle.eigen_sweeps.specs.Sweeping.{diagonal}
use Rattle.tables.proofs.TablesLaws.{filled_none, filled_more}
use Rattle.spectra.proofs.write_diagonal.Goals as goal

pub loop-i-init : goal.loop-i-init
loop-i-init c = (omega arith, refl, filled_none _ _)

pub overflow_mul-at : goal.overflow_mul-at
overflow_mul-at c =
    let at : let n = c.args.n in c.loop-i.i * n + c.loop-i.i < n * n = digits_lt c.loop-i-test.true c.loop-i-test.true in
    omega (arith, at)

pub overflow_add-at : goal.overflow_add-at
overflow_add-at c =
    let at : let n = c.args.n in c.loop-i.i * n + c.loop-i.i < n * n = digits_lt c.loop-i-test.true c.loop-i-test.true in
    omega (arith, at)

pub overflow_mul-at-in-loop-i : goal.overflow_mul-at-in-loop-i
overflow_mul-at-in-loop-i c =
    let at : let n = c.args.n in c.loop-i.i * n + c.loop-i.i < n * n = digits_lt c.loop-i-test.true c.loop-i-test.true in
    omega (arith, at, c.requires.0.cells)

pub offset_bounds-work-at : goal.offset_bounds-work-at
offset_bounds-work-at c =
    let at : let n = c.args.n in c.loop-i.i * n + c.loop-i.i < n * n = digits_lt c.loop-i-test.true c.loop-i-test.true in
    omega (arith, at, c.requires.0.cells)

pub bounds-work-at : goal.bounds-work-at
bounds-work-at c =
    let at : let n = c.args.n in c.loop-i.i * n + c.loop-i.i < n * n = digits_lt c.loop-i-test.true c.loop-i-test.true in
    omega (arith, at, c.requires.0.cells)

pub offset_bounds-out-i : goal.offset_bounds-out-i
offset_bounds-out-i c = omega (arith, c.requires.0.rows, c.loop-i-test.true)

pub bounds-out-i : goal.bounds-out-i
bounds-out-i c = omega (arith, c.loop-i.invariant.1, c.requires.1, c.loop-i-test.true)

pub overflow_step-i : goal.overflow_step-i
overflow_step-i c = omega (arith, c.requires.0.rows, c.loop-i-test.true)

pub loop-i-smaller : goal.loop-i-smaller
loop-i-smaller c = omega (arith, c.loop-i-test.true)

pub loop-i-preserved : goal.loop-i-preserved
loop-i-preserved c =
    let at : let n = c.args.n in c.loop-i.i * n + c.loop-i.i < n * n = digits_lt c.loop-i-test.true c.loop-i-test.true in
    (omega (arith, c.loop-i-test.true), simp length-set c.loop-i.invariant.1, rw (c.loop-i.invariant.2, plane-re (c.args.n * c.args.n) _ c.args.work.now (at)) (filled_more c.loop-i.i (diagonal (as_planes (c.args.n * c.args.n) c.args.work.now) c.args.n) c.args.out.now (omega (arith, c.requires.1, c.loop-i-test.true))))

pub returns : goal.returns
returns c =
    let e : c.loop-i.i ≡ c.args.n = omega (arith, c.loop-i.invariant.0, c.loop-i-test.false) in rw e at c.loop-i.invariant.2
