-- `chains::work` meets its contract: the work, the scratch zeroed, and on 8 and 9 the results too. Assumes nothing.
use mathlib.Core.Path.{sym, ◌∙◌}
use Rattle.chains.proofs.ChainsLaws.{work-done, work-stopped}
use Rattle.chains.proofs.work.Goals as goal

pub returns-then-is_err : goal.returns-then-is_err
returns-then-is_err c =
    let f = c.requires.0 in
    work-stopped c.args.state.now _ _ _ c.args.matrix.now c.run-made.new.u c.run-made.new.vt c.run-made.new.scratch c.requires.1
    (c.run-made.auto.u ∙ f.u-is) (c.run-made.auto.vt ∙ f.vt_is) (c.run-made.auto.scratch ∙ f.scratch-is) c.clear_scratch.ensures
    c.run-made.result _ _ _ _ c.run-made.ensures (sym c.is_err.ensures.value ∙ c.if-is_err.true)
    (c.run-made.auto.sites ∙ f.sites-is) (c.run-made.auto.bonds ∙ f.bonds-is) (c.run-made.auto.starts ∙ f.starts_is) (c.run-made.auto.marks ∙ f.marks-is)
    c.clear_chain.ensures

pub returns : goal.returns
returns c =
    let f = c.requires.0 in
    work-done c.args.state.now _ _ _ c.args.matrix.now c.run-made.new.u c.run-made.new.vt c.run-made.new.scratch c.requires.1
    (c.run-made.auto.u ∙ f.u-is) (c.run-made.auto.vt ∙ f.vt_is) (c.run-made.auto.scratch ∙ f.scratch-is) c.clear_scratch.ensures
    c.run-made.result c.run-made.ensures (sym c.is_err.ensures.value ∙ c.if-is_err.false)
