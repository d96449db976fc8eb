-- `certificates::answered` meets its contract at each way out.
-- Assumes nothing.
use mathlib.Core.Path.{◌≡◌, sym, ap, ◌∙◌}
use native.Mathlib.Omega.{arith}
use lib.ListN.{length}
use lib.Seq.{length-take-le}
use Rattle.answers.specs.Paper.{paper}
use Rattle.certificates.proofs.AcceptedLaws.{printed-as, printed-refusal, printed-counts}
use Rattle.certificates.proofs.CertificateLaws.{file-refused, cut-done, cut-printable, few-listed, few-kept}
use Rattle.certificates.proofs.answered.Goals as goal

pub slice_bounds-list-end : goal.slice_bounds-list-end
slice_bounds-list-end c = let q = c.cut_result-result in let h : length q.new.list ≡ 64 = q.ensures.list-long in omega (arith, few-listed _ _ _ q.result _ _ q.ensures _ c.in-Ok.is, h)

pub slice_bounds-put_accepted-end : goal.slice_bounds-put_accepted-end
slice_bounds-put_accepted-end c = let q = c.cut_result-result in let h : length q.new.list ≡ 64 = q.ensures.list-long in sym (length-take-le _ _ (omega (arith, few-listed _ _ _ q.result _ _ q.ensures _ c.in-Ok.is, h)))

pub slice_bounds-values-end : goal.slice_bounds-values-end
slice_bounds-values-end c = let q = c.cut_result-result in let h : length q.new.values ≡ 16 = q.ensures.values-long in omega (arith, few-kept _ _ _ q.result _ _ q.ensures _ c.in-Ok.is, h)

pub slice_bounds-put_accepted-end-in-Ok : goal.slice_bounds-put_accepted-end-in-Ok
slice_bounds-put_accepted-end-in-Ok c = let q = c.cut_result-result in let h : length q.new.values ≡ 16 = q.ensures.values-long in sym (length-take-le _ _ (omega (arith, few-kept _ _ _ q.result _ _ q.ensures _ c.in-Ok.is, h)))

pub put_accepted-length-requires : goal.put_accepted-length-requires
put_accepted-length-requires c = let q = c.cut_result-result in (cut-printable _ _ _ q.result _ _ q.ensures _ c.in-Ok.is, c.requires)

pub returns-in-Ok : goal.returns-in-Ok
returns-in-Ok c =
    let q = c.cut_result-result in
    let p = printed-as _ _ _ _ _ (cut-done _ _ _ q.result _ _ q.ensures _ c.in-Ok.is) c.put_accepted-length.ensures in
    record { printed = p; prefix_len = printed-counts _ _ _ _ (omega (arith, c.put_accepted-length.auto.out, c.requires)) p; answer_value = ap paper (sym c.in-Ok.is) ∙ q.ensures.answer }

pub returns-in-Err : goal.returns-in-Err
returns-in-Err c =
    let q = c.cut_result-result in
    let p = printed-as _ _ _ _ _ (file-refused _ _ _ q.result _ _ q.ensures _ c.in-Err.is) (printed-refusal _ _ _ _ c.put_refused-length.ensures) in
    record { printed = p; prefix_len = printed-counts _ _ _ _ (omega (arith, c.put_refused-length.auto.out, c.requires)) p; answer_value = ap paper (sym c.in-Err.is) ∙ q.ensures.answer }
