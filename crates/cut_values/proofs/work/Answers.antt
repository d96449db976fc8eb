-- `cut_values::work` meets its contract: the values, and scratch zeroed. Assumes nothing.
use mathlib.Core.Path.{◌∙◌}
use Rattle.cut_values.proofs.SchmidtLaws.{worked}
use Rattle.cut_values.proofs.work.Goals as goal

pub returns : goal.returns
returns c =
    let v = c.values_made-made in
    let m = v.auto.scratch ∙ c.requires.2 in
    worked _ _ _ _ _ _ _ v.ensures m m c.zero_first.ensures
