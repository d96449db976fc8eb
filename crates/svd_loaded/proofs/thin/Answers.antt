-- `svd_loaded::thin` meets its contract: the thin SVD of the work matrix is the wide or the tall case's. Assumes nothing.
use mathlib.Core.Path.{refl}
use Rattle.svd.proofs.SvdLaws.{wide-lent, tall-lent}
use Rattle.svd_loaded.proofs.LoadedLaws.{loaded-wide, loaded-tall}
use Rattle.svd_loaded.proofs.thin.Goals as goal

pub factor-requires : goal.factor-requires
factor-requires c = wide-lent _ _ _ _ _ _ _ _ c.if-m-n.true c.requires refl

pub returns-then-m-n : goal.returns-then-m-n
returns-then-m-n c = loaded-wide _ _ c.args.scratch.now c.if-m-n.true c.factor.ensures

pub factor-requires-2 : goal.factor-requires-2
factor-requires-2 c = tall-lent _ _ _ _ _ _ _ _ c.if-m-n.false c.requires refl

pub returns : goal.returns
returns c = loaded-tall _ _ c.args.scratch.now c.if-m-n.false c.factor-2.ensures
