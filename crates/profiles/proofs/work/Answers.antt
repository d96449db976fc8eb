-- `profiles::work` meets its contract: the walk, the scratch zeroed, and on 8 and 9 the page too. Assumes nothing.
use mathlib.Core.Path.{refl, ◌∙◌}
use Rattle.profiles.proofs.ProfileLaws.{work-done, work-stopped}
use Rattle.profiles.proofs.work.Goals as goal

pub returns-in-Err : goal.returns-in-Err
returns-in-Err c =
    let p = c.requires in
    let t = c.walk-made.auto in
    work-stopped c.args.state.now _ _ _ _ _ _ c.walk-made.new.scratch (t.header ∙ p.header_is) (t.values ∙ p.values-is) (t.largest ∙ p.largest-is)
    (t.ranks ∙ p.ranks-is) (t.marks ∙ p.marks-is) (t.scratch ∙ p.scratch-is) c.zero_first.ensures _ c.in-Err.ensures c.clear_page.ensures

pub returns : goal.returns
returns c =
    let p = c.requires in
    let t = c.walk-made.auto in
    work-done c.args.state.now _ _ _ _ _ _ c.walk-made.new.scratch (t.header ∙ p.header_is) (t.values ∙ p.values-is) (t.largest ∙ p.largest-is)
    (t.ranks ∙ p.ranks-is) (t.marks ∙ p.marks-is) (t.scratch ∙ p.scratch-is) c.zero_first.ensures _ _ c.in-Ok.ensures refl c.zero_first-2.ensures
