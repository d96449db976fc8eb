use mathlib.Core.Path.{refl}
use Rattle.cutfile_result.proofs.ResultLaws.{valued}
use Rattle.cutfile_result.proofs.values_of.Goals as goal

pub returns : goal.returns
returns c = valued _ _ _ _ _ c.requires refl c.dense_schmidt_values.result _ _ c.dense_schmidt_values.ensures
