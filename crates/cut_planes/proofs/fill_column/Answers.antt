use mathlib.Core.Path.{◌∙◌, ap}
use native.Mathlib.Omega.{arith}
use Rattle.qubits.proofs.NamedLaws.{pow_small}
use Rattle.cut_planes.specs.CutPlanes.{shown}
use Rattle.cut_planes.proofs.CutPlanesLaws.{column-begin, source_in, cell_in, column-step, column-end}
use Rattle.cut_planes.proofs.fill_column.Goals as goal

pub bit-cells-requires : goal.bit-cells-requires
bit-cells-requires c = omega (arith, c.requires.small)

pub loop-j-init : goal.loop-j-init
loop-j-init c = column-begin _ _ _ _ _ _ _ _ c.requires

pub read_cell-z-requires : goal.read_cell-z-requires
read_cell-z-requires c = source_in _ _ _ _ _ _ _ _ c.requires _ c.bit-cells.ensures _ _ _ c.loop-j.invariant c.loop-j-test.true

pub overflow_add-at : goal.overflow_add-at
overflow_add-at c = omega (arith, c.requires.last, c.loop-j-test.true, pow_small _ c.requires.small)

pub write_plane-requires : goal.write_plane-requires
write_plane-requires c = cell_in _ _ _ _ _ _ _ _ c.requires _ c.bit-cells.ensures _ _ _ c.loop-j.invariant c.loop-j-test.true

pub loop-j-preserved : goal.loop-j-preserved
loop-j-preserved c =
    column-step _ _ _ _ _ _ _ _ c.requires _ c.bit-cells.ensures _ _ _ c.loop-j.invariant c.loop-j-test.true _ _ _
    (c.show.ensures ∙ ap (shown c.args.conjugated) c.read_cell-z.ensures)
    c.write_plane.ensures c.next_submask-inner_bits.ensures

pub shape_of-work : goal.shape_of-work
shape_of-work c = c.loop-j.invariant.long

pub returns : goal.returns
returns c = column-end _ _ _ _ _ _ _ _ c.requires _ _ _ c.loop-j.invariant c.loop-j-test.false
