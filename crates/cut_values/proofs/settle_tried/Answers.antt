-- `cut_values::settle_tried` meets its contract: the exact sweeps, or plain ones that leave finite numbers. Assumes nothing.
use mathlib.Core.Path.{◌∙◌}
use Rattle.cut_values.proofs.PlainLaws.{settled-exactly, settled-plainly}
use Rattle.cut_values.proofs.settle_tried.Goals as goal

pub settle_work-requires : goal.settle_work-requires
settle_work-requires c = c.requires

pub returns-then-cut-lt-FEWEST : goal.returns-then-cut-lt-FEWEST
returns-then-cut-lt-FEWEST c = settled-exactly _ _ _ _ c.settle_work.result c.requires.0 c.settle_work.ensures

pub settle_work-sweeps-requires : goal.settle_work-sweeps-requires
settle_work-sweeps-requires c = c.requires

pub returns-then-all_finite : goal.returns-then-all_finite
returns-then-all_finite c =
    let t = c.settle_work-sweeps in
    let p = c.requires in
    settled-plainly _ _ _ _ t.result p.0 (t.auto.work ∙ p.1) t.ensures c.all_finite.ensures c.if-all_finite.true

pub settle_work-requires-2 : goal.settle_work-requires-2
settle_work-requires-2 c =
    let p = c.requires in
    (p.0, c.settle_work-sweeps.auto.work ∙ p.1)

pub returns : goal.returns
returns c = settled-exactly _ _ _ _ c.settle_work-2.result c.requires.0 c.settle_work-2.ensures
