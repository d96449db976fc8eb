-- `certificate_pages::put_pages` meets its contract at each way out.
-- Assumes nothing.
use mathlib.Core.Path.{◌≡◌, ◌∙◌}
use borrow.Author.Rules.{rules}
use Rattle.answers.specs.Paper.{paper}
use Rattle.certificate_pages.proofs.PagesLaws.{pages-refused}
use Rattle.certificate_pages.proofs.put_pages.Goals as goal

pub put_both-length-requires : goal.put_both-length-requires
put_both-length-requires c = record { begun = record { old-list = _; old-values = _; is = c.cut_result-given.ensures; worked = search rules }; room = c.requires }

pub returns-in-Ok : goal.returns-in-Ok
returns-in-Ok c =
    let q = c.cut_result-given in
    let same : paper c.map-answer.result ≡ paper q.result.cut = search rules in
    record { answered = same ∙ q.ensures.answer; there = c.put_both-length.ensures }

pub returns-in-Err : goal.returns-in-Err
returns-in-Err c =
    let q = c.cut_result-given in
    let same : paper c.map-answer.result ≡ paper q.result.cut = search rules in
    record { answered = same ∙ q.ensures.answer; there = pages-refused _ _ _ q.result _ _ q.ensures _ _ _ _ c.in-Err.is (search rules) c.put_refused-length.ensures }
