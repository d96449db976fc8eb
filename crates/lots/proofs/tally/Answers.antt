use Rattle.lots.proofs.LotLaws.{read-few, read_count, reach-begins, reach-tallied, reach-more, reach-ends}
use native.Mathlib.Omega.{arith}
use borrow.Author.Rules.{rules}
use Rattle.lots.proofs.tally.Goals as goal

pub loop-i-init : goal.loop-i-init
loop-i-init c = (search rules, reach-begins _ _ _ (omega (arith, c.requires)) (omega (arith, c.requires)) c.empty-sheet.ensures)

pub slice_bounds-room-end : goal.slice_bounds-room-end
slice_bounds-room-end c = omega (arith, read-few _ _ _ _ _ c.read_file-got.ensures, c.read_file-got.auto, c.loop-i.invariant.0)

pub slice_bounds-add_file-end : goal.slice_bounds-add_file-end
slice_bounds-add_file-end c = read_count _ _ _ _ _ c.read_file-got.ensures

pub add_file-sheet-requires : goal.add_file-sheet-requires
add_file-sheet-requires c = (reach-tallied _ _ _ _ c.loop-i.invariant.1, omega (arith, c.requires, c.loop-i-test.true))

pub overflow_add-from-in-loop-i : goal.overflow_add-from-in-loop-i
overflow_add-from-in-loop-i c = omega (arith, c.loop-i.invariant.1.near, c.number_at-size.ensures, c.loop-i-test.true, c.requires)

pub loop-i-preserved : goal.loop-i-preserved
loop-i-preserved c = (search rules, reach-more _ _ _ _ c.loop-i.invariant.1 _ _ _ _ c.number_at-size.ensures.0 c.number_at-size.ensures.1 c.read_file-got.ensures c.add_file-sheet.ensures.adds_file)

pub returns : goal.returns
returns c = reach-ends _ _ _ _ _ c.loop-i.invariant.1 (omega (arith, c.loop-i-test.false)) c.requires.0
