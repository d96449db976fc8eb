-- `cut_values::values_made` meets its contract: the singular values and the finish. Assumes nothing.
use mathlib.Core.Path.{◌≡◌, refl, sym, ◌∙◌}
use mathlib.Core.Bool.{Bool, true, false, ◌&&◌}
use lib.Seq.{length-take-le, take_at}
use Rattle.std.specs.Prelude.{Ok, Err}
use Rattle.std.proofs.lemmas.Result.{err_from_is_err_and}
use Rattle.answers.specs.Paper.{table}
use Rattle.answers.proofs.Stopped.{stopped-number}
use Rattle.answers.proofs.PaperLaws.{done-old}
use Rattle.sweeps.specs.Sweeping.{no_sweeps}
use Rattle.cut_values.proofs.SchmidtLaws.{front_length, front-in, same-le, made}
use Rattle.cut_values.proofs.values_made.Goals as goal

pub slice_bounds-values-end : goal.slice_bounds-values-end
slice_bounds-values-end c = c.requires.0.few

pub slice_bounds-singular_values-end : goal.slice_bounds-singular_values-end
slice_bounds-singular_values-end c = sym (length-take-le _ _ c.requires.0.few)

pub singular_values-swept-requires : goal.singular_values-swept-requires
singular_values-swept-requires c = let p = c.requires in (p.0, length-take-le _ _ p.0.few, p.2)

pub slice_bounds-values-end-2 : goal.slice_bounds-values-end-2
slice_bounds-values-end-2 c = front-in _ c.singular_values-swept.new.values _ (c.singular_values-swept.auto.values ∙ length-take-le _ _ c.requires.0.few)

pub slice_bounds-finish_finite-end : goal.slice_bounds-finish_finite-end
slice_bounds-finish_finite-end c = sym (front_length _ c.singular_values-swept.new.values _ (c.singular_values-swept.auto.values ∙ length-take-le _ _ c.requires.0.few))

pub finish_finite-requires : goal.finish_finite-requires
finish_finite-requires c = same-le (front_length _ c.singular_values-swept.new.values _ (c.singular_values-swept.auto.values ∙ length-take-le _ _ c.requires.0.few)) c.requires.1

pub returns-in_err-kept : goal.returns-in_err-kept
returns-in_err-kept c =
    let p = err_from_is_err_and c.from_residual.result c.from_residual.ensures.1 in
    let v = c.singular_values-swept in
    let k = v.auto.values ∙ length-take-le _ _ c.requires.0.few in
    let e = c.in_err-kept.field-0.0 in
    rw (p.1, p.2) (made _ _ _ _ _ (Err e) (Err e) v.result.exact (take_at _ _ _ k ∙ v.ensures.0) (front_length _ v.new.values _ k) v.ensures.2 c.in_err-kept.ensures refl refl (done-old (table e).0 _ no_sweeps (stopped-number e)) (none v.result.exact))
  where
    none : (b : Bool) → false ≡ (b && false)
    none true = refl
    none false = refl

pub returns : goal.returns
returns c =
    let v = c.singular_values-swept in
    let k = v.auto.values ∙ length-take-le _ _ c.requires.0.few in
    made _ _ _ _ _ (Ok c.in_ok-kept.kept) _ v.result.exact (take_at _ _ _ k ∙ v.ensures.0) (front_length _ v.new.values _ k) v.ensures.2 c.in_ok-kept.ensures refl refl v.ensures.1 refl
