-- `chain_checks::check` meets its contract: its four parts in their order. Assumes nothing.
use mathlib.Core.Path.{sym, ◌∙◌}
use Rattle.answers.proofs.Stopped.{passed}
use Rattle.chain_checks.specs.Checks.{chain_tests}
use Rattle.chain_checks.proofs.CheckLaws.{accepts}
use Rattle.chain_checks.proofs.check.Goals as goal

pub returns-clause-accepted : goal.returns-clause-accepted
unfolding chain_tests
returns-clause-accepted c =
    accepts c.args.state.now _ _ _ _ _ _ _ _ _ _ c.check_state.result
    (c.check_state.ensures ∙ sym (passed _ _ _ c.check_scratch.ensures c.in_ok-check_scratch.was)
    ∙ sym (passed _ _ _ c.check_results.ensures c.in_ok-check_results.was) ∙ sym (passed _ _ _ c.check_sizes.ensures c.in_ok-check_sizes.was))
