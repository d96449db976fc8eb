-- `plans::kept_sides` meets its contract: a made plan has the numbers of its list. Assumes nothing.
use mathlib.Core.Path.{refl}
use native.Mathlib.Omega.{arith}
use Rattle.plans.proofs.PlanLaws.{made-parted, made-count, sides-kept}
use Rattle.plans.proofs.kept_sides.Goals as goal

pub overflow_sub-result : goal.overflow_sub-result
overflow_sub-result c = omega (arith, made-count c.args.p c.requires, (made-parted c.args.p c.requires).part)

pub returns : goal.returns
returns c = sides-kept c.args.p c.requires _ refl
