-- `values::check_values` meets its contract: it is the first value that is not allowed. Assumes nothing.
use mathlib.Core.Path.{◌≡◌}
use mathlib.Core.Bool.{not}
use Rattle.std.proofs.Common.{rules, tests}
use Rattle.std.proofs.lemmas.Iterator.{YieldsList-from_slice}
use Rattle.std.proofs.lemmas.Iterator.Search.{position_from_yields_List}
use Rattle.std.specs.List.{position}
use Rattle.numbers.specs.Numbers.{allowed}
use Rattle.values.proofs.ListLaws.{allowed-found}
use Rattle.values.proofs.check_values.Goals as goal

pub returns-in-Some : goal.returns-in-Some
returns-in-Some c =
    let e : c.position.result ≡ position (λ x. not (allowed x)) c.args.s.now =
    position_from_yields_List (λ x. not (allowed x)) _ _ _ c.position.ensures.ran (YieldsList-from_slice c.args.s.now (cc)) (λ x b q k. search (rules, tests)) in
    allowed-found _ e c.in-Some.is

pub returns-in-None : goal.returns-in-None
returns-in-None c =
    let e : c.position.result ≡ position (λ x. not (allowed x)) c.args.s.now =
    position_from_yields_List (λ x. not (allowed x)) _ _ _ c.position.ensures.ran (YieldsList-from_slice c.args.s.now (cc)) (λ x b q k. search (rules, tests)) in
    allowed-found _ e c.in-None.is
