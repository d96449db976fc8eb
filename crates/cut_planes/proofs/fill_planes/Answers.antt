use mathlib.Core.Path.{◌≡◌}
use Prim.Native.Nat.{◌+◌, ◌*◌}
use native.Mathlib.Omega.{arith}
use Rattle.qubits.proofs.NamedLaws.{pow_small}
use Rattle.cut_planes.proofs.CutPlanesLaws.{columns-begin, column-ready, columns-step, columns-end}
use Rattle.cut_planes.proofs.fill_planes.Goals as goal

pub loop-c-init : goal.loop-c-init
loop-c-init c = let none : 0 * c.args.count ≡ 0 = omega arith in rw none (columns-begin _ _ _ _ _ _ _ _ c.requires.0)

pub fill_column-requires : goal.fill_column-requires
fill_column-requires c = column-ready _ _ _ _ _ _ _ _ c.requires.0 _ _ _ _ c.loop-c.invariant c.loop-c-test.true

pub overflow_mul-c : goal.overflow_mul-c
overflow_mul-c c =
    let z = c.requires.0 in
    omega (arith, (column-ready _ _ _ _ _ _ _ _ z _ _ _ _ c.loop-c.invariant c.loop-c-test.true).last, pow_small _ z.small)

pub loop-c-preserved : goal.loop-c-preserved
loop-c-preserved c =
    let next : (c.loop-c.c + 1) * c.args.count ≡ c.loop-c.c * c.args.count + c.args.count = omega arith in
    rw next
    (columns-step _ _ _ _ _ _ _ _ c.requires.0 _ _ _ _ c.loop-c.invariant c.loop-c-test.true _ _ c.fill_column.auto.work
    c.fill_column.ensures c.next_submask-bits.ensures)

pub shape_of-work : goal.shape_of-work
shape_of-work c = c.loop-c.invariant.long

pub returns : goal.returns
returns c = columns-end _ _ _ _ _ _ _ _ c.requires.0 _ _ _ _ c.loop-c.invariant c.loop-c-test.false c.requires.1
