-- `lots::add_file` meets its contract. Assumes nothing.
use mathlib.Core.Path.{◌∙◌}
use Rattle.lots.proofs.LotLaws.{single-fair, unwrapped, adds-file, file-tallied}
use borrow.Author.Rules.{rules}
use Rattle.lots.proofs.add_file.Goals as goal

pub add-requires : goal.add-requires
add-requires c =
    let s = c.single_result-single.ensures in
    (search rules, search rules, single-fair _ _ _ (c.number_of.ensures.0 ∙ s.0) (c.unwrap_or.ensures ∙ unwrapped c.single_result-single.result ∙ s.1))

pub returns : goal.returns
returns c =
    let s = c.single_result-single.ensures in
    let a = adds-file _ _ _ _ _ _ (c.number_of.ensures.0 ∙ s.0) (c.unwrap_or.ensures ∙ unwrapped c.single_result-single.result ∙ s.1) c.add.ensures in
    record { adds_file = a; tallied = file-tallied _ _ _ _ c.requires.0 a }
