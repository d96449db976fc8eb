-- `entropy_bands::work` meets its contract: the cut's values, bands zeroed, and the sums. Assumes nothing.
use mathlib.Core.Path.{◌≡◌, sym, ap, ◌∙◌}
use Prim.Native.Nat.{ℕ}
use borrow.Author.Rules.{rules}
use lib.ListN.{length, replicate, length-replicate}
use lib.Seq.{length-take-le}
use Rattle.std.proofs.lemmas.Result.{err_from_is_err_and}
use Rattle.entropy_bands.proofs.EntropyLaws.{work-refused, front-count, front_fits, sum-ready, work-done}
use Rattle.entropy_bands.proofs.work.Goals as goal

pub slice_bounds-values-end : goal.slice_bounds-values-end
slice_bounds-values-end c = c.requires.few

pub slice_bounds-dense_schmidt_values-end : goal.slice_bounds-dense_schmidt_values-end
slice_bounds-dense_schmidt_values-end c = sym (length-take-le _ _ c.requires.few)

pub returns-in_err-cut : goal.returns-in_err-cut
returns-in_err-cut c =
    let g = c.dense_schmidt_values-got in
    let p = c.requires in
    let f : c.fill.new.self ≡ replicate (length c.args.bands.now) 0 = search rules in
    let r = err_from_is_err_and c.from_residual.result c.from_residual.ensures.1 in
    rw (r.1, r.2)
    (work-refused _ _ _ _ _ _ _ g.result _ _ g.ensures (length-take-le _ _ p.few) p.rows_are p.passed _ _ c.in_err-cut.was (f ∙ ap (λ (k : ℕ). replicate k 0) p.long))

pub slice_bounds-values-end-2 : goal.slice_bounds-values-end-2
slice_bounds-values-end-2 c =
    let g = c.dense_schmidt_values-got in
    let p = c.requires in
    front_fits _ _ _ _ _ _ _ g.result _ _ g.ensures (length-take-le _ _ p.few) p.rows_are p.passed c.in_ok-cut.was (g.auto.out ∙ length-take-le _ _ p.few) _

pub slice_bounds-sum_up-end : goal.slice_bounds-sum_up-end
slice_bounds-sum_up-end c =
    let g = c.dense_schmidt_values-got in
    let p = c.requires in
    sym (front-count _ _ _ _ _ _ _ g.result _ _ g.ensures (length-take-le _ _ p.few) p.rows_are p.passed c.in_ok-cut.was (g.auto.out ∙ length-take-le _ _ p.few) _)

pub sum_up-requires : goal.sum_up-requires
sum_up-requires c =
    let g = c.dense_schmidt_values-got in
    let p = c.requires in
    let f : c.fill.new.self ≡ replicate (length c.args.bands.now) 0 = search rules in
    sum-ready _ _ _ _ _ _ _ g.result _ _ g.ensures (length-take-le _ _ p.few) p.rows_are p.passed c.in_ok-cut.was (g.auto.out ∙ length-take-le _ _ p.few) _ _
    (f ∙ ap (λ (k : ℕ). replicate k 0) p.long) p.few

pub returns : goal.returns
returns c =
    let g = c.dense_schmidt_values-got in
    let p = c.requires in
    let f : c.fill.new.self ≡ replicate (length c.args.bands.now) 0 = search rules in
    work-done _ _ _ _ _ _ _ g.result _ _ g.ensures (length-take-le _ _ p.few) p.rows_are p.passed c.in_ok-cut.was (g.auto.out ∙ length-take-le _ _ p.few) _ _ _ _
    (ap length f ∙ length-replicate (length c.args.bands.now) 0 ∙ p.long) c.sum_up.ensures
