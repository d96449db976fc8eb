-- `site_ranks::truncated_svd_rank` meets its contract: the count over the threshold, within 1 and the cap. Assumes nothing.
use mathlib.Core.Path.{◌≡◌}
use lib.Ieee as Ieee
use lib.Ieee.{binary64}
use lib.ListN.{length}
use borrow.Author.Rules.{rules}
use Rattle.std.proofs.Common.{tests}
use Rattle.std.proofs.lemmas.Iterator.{YieldsList-from_slice}
use Rattle.std.proofs.lemmas.Iterator.Consumers.{count_from_yields_List}
use Rattle.std.proofs.lemmas.Iterator.Search.{YieldsList-from_take_while}
use Rattle.std.specs.List.{take_while}
use Rattle.site_ranks.proofs.RankLaws.{rank-made}
use Rattle.site_ranks.proofs.truncated_svd_rank.Goals as goal

pub returns : goal.returns
returns c =
    let values = c.args.values.now in
    let above = λ (x : _). Ieee.lt (Ieee.mul binary64 c.args.epsilon c.unwrap_or-first.result) x in
    let counted : c.count-count.result ≡ length (take_while above values) =
    count_from_yields_List c.take_while.result _ c.count-count.ensures.ran
    (YieldsList-from_take_while _ above (YieldsList-from_slice values cc) c.take_while.ensures.closure c.take_while.ensures.done (λ x b q k. search (rules, tests))) in
    let kept = rank-made values c.args.epsilon c.args.max_bond_dim (cc) counted in
    cc
