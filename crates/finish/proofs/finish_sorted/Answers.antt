-- `finish::finish_sorted` meets its contract: at each way out the tests passed are those of the answer. Assumes nothing.
use native.Mathlib.Omega.{arith}
use Rattle.finish.proofs.OutcomeLaws.{within, sorted_none, sorted-infinite, sorted-done}
use Rattle.finish.proofs.finish_sorted.Goals as goal

pub returns-then-count-eq0 : goal.returns-then-count-eq0
returns-then-count-eq0 c = sorted_none _ _ _ c.floor_of.ensures c.kept_count-count.ensures c.if-count-eq0.true _ c.zero_first.ensures

pub scale_kept-requires : goal.scale_kept-requires
scale_kept-requires c = within _ _ _ c.floor_of.ensures c.kept_count-count.ensures

pub returns-in_default : goal.returns-in_default
returns-in_default c = sorted-infinite _ _ _ c.floor_of.ensures c.kept_count-count.ensures c.if-count-eq0.false c.scale_kept.ensures.marked c.in_default.is _ _ c.scale_kept.auto.s c.zero_first-in_default.ensures

pub offset_bounds-s-count : goal.offset_bounds-s-count
offset_bounds-s-count c = omega (arith, within _ _ _ c.floor_of.ensures c.kept_count-count.ensures)

pub slice_bounds-zero_first-count : goal.slice_bounds-zero_first-count
slice_bounds-zero_first-count c = omega (arith, c.scale_kept.auto.s, within _ _ _ c.floor_of.ensures c.kept_count-count.ensures)

pub slice_bounds-zero_first-start : goal.slice_bounds-zero_first-start
slice_bounds-zero_first-start c = omega (arith, c.scale_kept.auto.s, within _ _ _ c.floor_of.ensures c.kept_count-count.ensures)

pub overflow_sub-n : goal.overflow_sub-n
overflow_sub-n c = within _ _ _ c.floor_of.ensures c.kept_count-count.ensures

pub returns : goal.returns
returns c = sorted-done _ _ _ c.floor_of.ensures c.kept_count-count.ensures c.if-count-eq0.false _ _ c.scale_kept.ensures.now _ c.scale_kept.ensures.marked c.in-Some.is c.zero_first-2.ensures
