-- `cut_values::finish_finite` meets its contract: values that are not finite are answered 9, else the finish decides. Assumes nothing.
use Rattle.cut_values.proofs.SchmidtLaws.{finished-good, finished-bad}
use Rattle.cut_values.proofs.finish_finite.Goals as goal

pub finish_marked-requires : goal.finish_marked-requires
finish_marked-requires c = c.requires

pub returns-then-all_finite : goal.returns-then-all_finite
returns-then-all_finite c = finished-good _ _ _ c.all_finite.ensures c.finish_marked.result _ c.if-all_finite.true c.finish_marked.ensures

pub returns : goal.returns
returns c = finished-bad _ _ _ c.all_finite.ensures _ c.if-all_finite.false c.zero_first.ensures
