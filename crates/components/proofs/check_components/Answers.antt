-- `components::check_components` meets its contract: where every number is allowed nothing is refused. Assumes nothing.
use mathlib.Core.Path.{sym, ◌∙◌}
use Rattle.components.proofs.EveryLaws.{every-done}
use Rattle.components.proofs.check_components.Goals as goal

pub returns-then-every_allowed : goal.returns-then-every_allowed
returns-then-every_allowed c = sym (every-done _ 0 (sym c.every_allowed.ensures ∙ c.if-every_allowed.true))
