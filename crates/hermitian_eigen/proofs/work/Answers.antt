-- `hermitian_eigen::work` meets its contract: the shift, the factors, the values lowered, scratch zeroed, and the finite test. Assumes nothing.
use mathlib.Core.Path.{refl, ◌∙◌}
use Rattle.std.specs.Prelude.{Ok, Err}
use Rattle.answers.specs.Paper.{table}
use Rattle.answers.proofs.Stopped.{stopped-number}
use Rattle.answers.proofs.PaperLaws.{done-old}
use Rattle.sweeps.specs.Sweeping.{no_sweeps}
use Rattle.std.proofs.lemmas.Result.{err_from_is_err_and}
use Rattle.hermitian_eigen.proofs.StepsLaws.{values-made, vectors-made, sweeps-made}
use Rattle.hermitian_eigen.proofs.HermitianLaws.{worked}
use Rattle.hermitian_eigen.proofs.work.Goals as goal

pub shift_of-shift-requires : goal.shift_of-shift-requires
shift_of-shift-requires c = (c.requires.side, c.requires.a-is)

pub returns-in_err-finish : goal.returns-in_err-finish
returns-in_err-finish c =
    let p = err_from_is_err_and c.from_residual.result c.from_residual.ensures.1 in
    let f = c.factor-sweeps in
    let l = c.lower in
    let s = c.shift_of-shift.ensures in
    let e = c.in_err-finish.field-0.0 in
    rw (p.1, p.2) (worked _ _ _ c.args.values.now c.args.vectors.now c.args.scratch.now _ (Err e) (Err e) c.requires
    (l.auto.values ∙ f.auto.values)
    f.auto.vectors
    (values-made _ _ _ s f.ensures l.ensures)
    (vectors-made _ _ _ s f.ensures)
    _
    f.auto.scratch
    f.auto.scratch
    c.zero_first.ensures
    c.in_err-finish.ensures
    refl
    (done-old (table e).0 _ no_sweeps (stopped-number e)))

pub returns : goal.returns
returns c =
    let f = c.factor-sweeps in
    let l = c.lower in
    let s = c.shift_of-shift.ensures in
    worked _ _ _ c.args.values.now c.args.vectors.now c.args.scratch.now _ (Ok c.in_ok-finish.field-0) _ c.requires
    (l.auto.values ∙ f.auto.values)
    f.auto.vectors
    (values-made _ _ _ s f.ensures l.ensures)
    (vectors-made _ _ _ s f.ensures)
    _
    f.auto.scratch
    f.auto.scratch
    c.zero_first.ensures
    c.in_ok-finish.ensures
    refl
    (sweeps-made _ _ _ _ s f.ensures)
