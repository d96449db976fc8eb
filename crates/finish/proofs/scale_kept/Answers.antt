-- `finish::scale_kept` meets its contract: the calls on the first count values are the definition's steps, and the rest is as it was. Assumes nothing.
use mathlib.Core.Path.{sym, ap, ◌∙◌}
use native.Mathlib.Omega.{arith}
use lib.ListN.{drop, length-append, length-drop}
use lib.Seq.{length-take-le}
use Rattle.std.specs.Prelude.{Some}
use Rattle.finish.proofs.OutcomeLaws.{scaled-front, exact-made}
use Rattle.finish.proofs.scale_kept.Goals as goal

pub slice_bounds-sum_of_squares-end-2 : goal.slice_bounds-sum_of_squares-end-2
slice_bounds-sum_of_squares-end-2 c = sym (length-take-le _ _ c.requires)

pub slice_bounds-scale_values-end-2 : goal.slice_bounds-scale_values-end-2
slice_bounds-scale_values-end-2 c = sym (length-take-le _ _ c.requires)

pub slice_bounds-all_finite-end-2 : goal.slice_bounds-all_finite-end-2
slice_bounds-all_finite-end-2 c =
    let v = c.scale_values in
    sym (length-take-le _ _ (omega (arith, c.requires, v.auto.s, length-append v.new.s (drop c.args.count c.args.s.now), length-drop c.args.count c.args.s.now, length-take-le c.args.count c.args.s.now c.requires)))

pub returns-then-all_finite : goal.returns-then-all_finite
returns-then-all_finite c =
    let v = c.scale_values in
    let f = scaled-front _ _ _ c.requires v.auto.s c.sum_of_squares-total.ensures c.sqrt_marked-marked.ensures.0 v.ensures c.all_finite.ensures in
    record { now = f.0; marked = rw (sym f.1 ∙ c.if-all_finite.true) (ap Some (exact-made _ c.sum_of_squares-total.ensures c.sqrt_marked-marked.ensures.1)) }

pub returns : goal.returns
returns c =
    let v = c.scale_values in
    let f = scaled-front _ _ _ c.requires v.auto.s c.sum_of_squares-total.ensures c.sqrt_marked-marked.ensures.0 v.ensures c.all_finite.ensures in
    record { now = f.0; marked = rw (sym f.1 ∙ c.if-all_finite.false) }
