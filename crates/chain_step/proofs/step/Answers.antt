use mathlib.Core.Path.{refl, sym, ◌∙◌}
use native.Mathlib.Omega.{arith}
use lib.Seq.{length-take-le, take_at}
use Rattle.std.proofs.lemmas.Result.{err_from_is_err_and}
use Rattle.chain_step.proofs.StepLaws.{rooms, values-few, keepable, stepped-refused, stepped, front_length, front-in, vt-front}
use Rattle.chain_step.proofs.step.Goals as goal

pub slice_bounds-s-end : goal.slice_bounds-s-end
slice_bounds-s-end c = values-few _ _ c.smaller_size-k.ensures c.requires.0.few

pub slice_bounds-factor-end : goal.slice_bounds-factor-end
slice_bounds-factor-end c = sym (length-take-le _ _ (values-few _ _ c.smaller_size-k.ensures c.requires.0.few))

pub factor-requires : goal.factor-requires
factor-requires c = (c.requires.0, length-take-le _ _ (values-few _ _ c.smaller_size-k.ensures c.requires.0.few) ∙ c.smaller_size-k.ensures)

pub returns-in_err-sweeps : goal.returns-in_err-sweeps
returns-in_err-sweeps c =
    let p = err_from_is_err_and c.from_residual.result c.from_residual.ensures.1 in
    rw (p.1, p.2) (stepped-refused _ _ _ _ _ _ _ c.in_err-sweeps.ensures)

pub overflow_mul-for_vt : goal.overflow_mul-for_vt
overflow_mul-for_vt c = omega (arith, (rooms _ _ c.smaller_size-k.ensures c.requires.0.few).1)

pub overflow_mul-for_vt-2 : goal.overflow_mul-for_vt-2
overflow_mul-for_vt-2 c = omega (arith, (rooms _ _ c.smaller_size-k.ensures c.requires.0.few).1)

pub slice_bounds-s-end-2 : goal.slice_bounds-s-end-2
slice_bounds-s-end-2 c = front-in _ c.factor.new.s _ (c.factor.auto.s ∙ length-take-le _ _ (values-few _ _ c.smaller_size-k.ensures c.requires.0.few))

pub slice_bounds-keep-end : goal.slice_bounds-keep-end
slice_bounds-keep-end c = sym (front_length _ c.factor.new.s _ (c.factor.auto.s ∙ length-take-le _ _ (values-few _ _ c.smaller_size-k.ensures c.requires.0.few)))

pub slice_bounds-keep-end-2 : goal.slice_bounds-keep-end-2
slice_bounds-keep-end-2 c = omega (arith, c.factor.auto.vt, (rooms _ _ c.smaller_size-k.ensures c.requires.0.few).3, c.requires.0.vt_is)

pub slice_bounds-keep-end-3 : goal.slice_bounds-keep-end-3
slice_bounds-keep-end-3 c = sym (length-take-le _ _ (omega (arith, c.factor.auto.vt, (rooms _ _ c.smaller_size-k.ensures c.requires.0.few).3, c.requires.0.vt_is)))

pub keep-requires : goal.keep-requires
keep-requires c = keepable _ _ _ _ _ _ _ _ _ _ c.smaller_size-k.ensures c.requires.0 c.requires.1 (front_length _ c.factor.new.s _ (c.factor.auto.s ∙ length-take-le _ _ (values-few _ _ c.smaller_size-k.ensures c.requires.0.few))) (length-take-le _ _ (omega (arith, c.factor.auto.vt, (rooms _ _ c.smaller_size-k.ensures c.requires.0.few).3, c.requires.0.vt_is))) c.factor.auto.u

pub returns : goal.returns
returns c = stepped _ _ _ _ _ _ _ c.keep.result _ _ _ _ c.in_ok-sweeps.ensures (take_at _ _ _ (c.factor.auto.s ∙ length-take-le _ _ (values-few _ _ c.smaller_size-k.ensures c.requires.0.few))) refl (vt-front _ _ _ c.smaller_size-k.ensures) c.keep.ensures
