use native.Mathlib.Omega.{arith}
use Rattle.profile_walk.proofs.PutLaws.{alone-room, at-inside, put-inside, end-within, put-taken}
use Rattle.profile_walk.proofs.put_cut.Goals as goal

pub cut_alone-requires : goal.cut_alone-requires
cut_alone-requires c = alone-room _ _ _ _ _ c.args.values.now c.requires

pub offset_bounds-values-at-2 : goal.offset_bounds-values-at-2
offset_bounds-values-at-2 c = omega (arith, at-inside c.args.n c.args.j _ _ c.requires.values-fit)

pub bounds-values-at : goal.bounds-values-at
bounds-values-at c = put-inside _ c.args.values.now c.cut_alone.new.out (at-inside c.args.n c.args.j _ _ c.requires.values-fit) c.cut_alone.auto.out

pub overflow_add-result : goal.overflow_add-result
overflow_add-result c = omega (arith, end-within _ _ _ _ _ c.in_ok-alone.alone c.in_ok-alone.ensures c.requires.values-fit)

pub returns : goal.returns
returns c = put-taken _ _ _ _ _ _ _ _ _ c.in_ok-alone.alone c.in_ok-alone.ensures c.requires.values-fit c.requires.in-header c.requires.in-largest c.requires.in-ranks c.put_marks.ensures
