use mathlib.Core.Path.{◌∙◌}
use Prim.Native.Nat.{◌+◌, ◌*◌}
use native.Mathlib.Omega.{arith}
use lib.ListN.{get_or, length-drop}
use Rattle.complex.proofs.Loops.{stop}
use Rattle.complex.specs.Cells.{written}
use Rattle.complex.specs.Planes.{plane_at}
use Rattle.stable_order.specs.Places.{places_in}
use Rattle.whole_numbers.proofs.WholeLaws.{column_fits}
use Rattle.svd_columns.specs.Columns.{v_cell, in_columns, v_columns_of}
use Rattle.svd_columns.proofs.Grids.{columns-none, columns-more, columns-all}
use borrow.Author.Rules.{rules}
use Rattle.svd_columns.proofs.write_v.Goals as goal

pub loop-j-init : goal.loop-j-init
loop-j-init c = columns-none _ _ _

pub read_place-o-requires : goal.read_place-o-requires
read_place-o-requires c = (search rules, search rules, c.requires.4)

pub overflow_mul-to : goal.overflow_mul-to
overflow_mul-to c = omega (arith, column_fits c.loop-j.j c.args.side c.args.side c.loop-j-test.true)

pub overflow_mul-to-in-loop-j : goal.overflow_mul-to-in-loop-j
overflow_mul-to-in-loop-j c = omega (arith, column_fits c.loop-j.j c.args.side c.args.side c.loop-j-test.true)

pub overflow_mul-o : goal.overflow_mul-o
overflow_mul-o c = omega (arith, column_fits c.read_place-o.result c.args.side c.args.side c.read_place-o.ensures.1)

pub offset_bounds-out-to : goal.offset_bounds-out-to
offset_bounds-out-to c = omega (arith, column_fits c.loop-j.j c.args.side c.args.side c.loop-j-test.true)

pub slice_bounds-turn_column-count : goal.slice_bounds-turn_column-count
slice_bounds-turn_column-count c = omega (arith, column_fits c.loop-j.j c.args.side c.args.side c.loop-j-test.true)

pub slice_bounds-turn_column-start : goal.slice_bounds-turn_column-start
slice_bounds-turn_column-start c = omega (arith, column_fits c.loop-j.j c.args.side c.args.side c.loop-j-test.true)

pub slice_bounds-turn_column-end : goal.slice_bounds-turn_column-end
slice_bounds-turn_column-end c = omega (arith, column_fits c.loop-j.j c.args.side c.args.side c.loop-j-test.true)

pub turn_column-requires : goal.turn_column-requires
turn_column-requires c =
    (column_fits c.read_place-o.result c.args.side c.args.side c.read_place-o.ensures.1, search rules, omega (arith, column_fits c.loop-j.j c.args.side c.args.side c.loop-j-test.true, length-drop (2 * (c.loop-j.j * c.args.side)) c.loop-j.out))

pub loop-j-preserved : goal.loop-j-preserved
loop-j-preserved c =
    let a = c.args in
    columns-more a.side
    (λ _ i r. v_cell a.wide (plane_at a.v.now (a.side * a.side) (i * a.side + r)))
    (λ k. get_or (places_in a.order.now) k 0)
    c.loop-j.j
    _
    (omega (arith, column_fits c.loop-j.j c.args.side c.args.side c.loop-j-test.true))
    c.loop-j.invariant
    c.read_place-o.ensures.0
    c.turn_column.ensures

pub returns : goal.returns
unfolding v_columns_of
returns c = let a = c.args in stop (λ k. written (k * a.side) (in_columns a.side (λ i r. v_cell a.wide (plane_at a.v.now (a.side * a.side) (get_or (places_in a.order.now) i 0 * a.side + r)))) a.out.now) c.loop-j.invariant (search rules) (search rules) ∙ columns-all _ _ _ c.requires.5
