-- `profile_checks::check` meets its contract: its four parts in their order. Assumes nothing.
use mathlib.Core.Path.{sym, ◌∙◌}
use Rattle.answers.proofs.Stopped.{passed}
use Rattle.profile_checks.specs.Checks.{profile_tests}
use Rattle.profile_checks.proofs.CheckLaws.{accepts}
use Rattle.profile_checks.proofs.check.Goals as goal

pub returns-clause-accepted : goal.returns-clause-accepted
unfolding profile_tests
returns-clause-accepted c =
    accepts c.args.state.now _ _ _ _ _ _ _ _ c.check_components.result
    (c.check_components.ensures ∙ sym (passed _ _ _ c.check_index.ensures c.in_ok-check_index.was)
    ∙ sym (passed _ _ _ c.check_page.ensures c.in_ok-check_page.was) ∙ sym (passed _ _ _ c.check_sizes.ensures c.in_ok-check_sizes.was))
