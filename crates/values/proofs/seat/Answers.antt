-- `values::seat` meets its contract: it is the first place that passes. Assumes nothing.
use mathlib.Core.Path.{◌≡◌, ◌∙◌}
use Rattle.std.proofs.Common.{rules, tests}
use Rattle.std.proofs.lemmas.Iterator.{YieldsList-from_slice}
use Rattle.std.proofs.lemmas.Iterator.Search.{position_from_yields_List}
use Rattle.std.specs.List.{position}
use Rattle.numbers.specs.Numbers.{total_less}
use Rattle.values.proofs.SortLaws.{seat-found}
use Rattle.values.proofs.seat.Goals as goal

pub returns : goal.returns
returns c =
    let e : c.position.result ≡ position (λ y. total_less y c.args.x) c.args.s.now =
    position_from_yields_List (λ y. total_less y c.args.x) _ _ _ c.position.ensures.ran (YieldsList-from_slice c.args.s.now (cc)) (λ x b q k. search (rules, tests)) in
    c.unwrap_or.ensures ∙ rw e (seat-found _ _)
