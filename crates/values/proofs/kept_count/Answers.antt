-- `values::kept_count` meets its contract: it is the first place at or below the floor. Assumes nothing.
use mathlib.Core.Path.{◌≡◌, ◌∙◌}
use Rattle.std.proofs.Common.{rules, tests}
use Rattle.std.proofs.lemmas.Iterator.{YieldsList-from_slice}
use Rattle.std.proofs.lemmas.Iterator.Search.{position_from_yields_List}
use lib.Ieee.{le}
use Rattle.std.specs.List.{position}
use Rattle.values.proofs.ListLaws.{kept-found}
use Rattle.values.proofs.kept_count.Goals as goal

pub returns : goal.returns
returns c =
    let e : c.position.result ≡ position (λ x. le x c.args.floor) c.args.s.now =
    position_from_yields_List (λ x. le x c.args.floor) _ _ _ c.position.ensures.ran (YieldsList-from_slice c.args.s.now (cc)) (λ x b q k. search (rules, tests)) in
    c.unwrap_or.ensures ∙ rw e (kept-found _ _)
