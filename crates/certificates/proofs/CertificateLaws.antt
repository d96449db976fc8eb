-- Laws of the certificate: what is printed of a file's result. Assumes nothing.
use mathlib.Core.Path.{◌≡◌, sym, ap, ap₂, subst, ◌∙◌}
use mathlib.Core.List.{List}
use Prim.Native.Nat.{ℕ, ◌≤◌}
use native.Mathlib.Omega.{arith}
use lib.Ieee.{Float}
use lib.ListN.{take}
use Rattle.std.specs.Prelude.{Ok, Err}
use Rattle.answers.specs.declared.Refusal.{Refusal}
use Rattle.answers.specs.Paper.{Reply, paper, table, given}
use Rattle.answers.proofs.Stopped.{stopped-number, was-done}
use Rattle.answers.proofs.PaperLaws.{done-new, done-old}
use Rattle.sweeps.specs.declared.Sweeps.{Sweeps}
use Rattle.cutfile.specs.Bytes.{word32}
use Rattle.cut_values.specs.declared.CutCounted.{CutCounted}
use Rattle.cut_values.specs.Schmidt.{no_cut}
use Rattle.cutfile_result.specs.declared.CutResult.{CutResult}
use Rattle.cutfile_result.specs.Result.{file_reply, file_list, file_values, file_sweeps, Result}
use Rattle.cutfile_result.proofs.Few.{n-word, k-word, fits, count-is, sweeps-is, count-few, list-front, values-front, taken}
use Rattle.lines.specs.Lines.{refused_line}
use Rattle.certificates.specs.Accepted.{Printable, accepted_text}
use Rattle.certificates.specs.Certificate.{certificate_of}

module _ (file list : List ℕ) (values : List Float) (r : CutResult) (list' : List ℕ) (values' : List Float) (is : Result file list values r list' values') where
  pub file-refused : (e : Refusal) → r.cut ≡ Err e → refused_line (table e) ≡ certificate_of file
  unfolding certificate_of
  file-refused e h =
      let said : table e ≡ file_reply file = ap paper (sym h) ∙ is.answer in
      ap refused_line said
      ∙ done-old (file_reply file).0 (accepted_text (word32 file 4) (file_list file) (file_values file) (file_sweeps file).begun (file_sweeps file).quiet) (refused_line (file_reply file))
      (λ z. stopped-number e (ap (λ (a : Reply). a.0) said ∙ z))

  -- the file is answered 0
  module _ (e : (file_reply file).0 ≡ 0) where
    pub file-printable : Printable (take r.k list') r.n (take (given no_cut r.cut).count values')
    file-printable =
        rw (n-word file list values r list' values' is e, list-front file list values r list' values' is e, values-front file list values r list' values' is e)
        (record {
          small = (fits file list values r list' values' is e).n-small;
          taken = taken file list values r list' values' is e;
          few = omega (arith, count-is file list values r list' values' is e, count-few file list values r list' values' is e);
        })

    file-accepted : (c : CutCounted) → c ≡ given no_cut r.cut
        → accepted_text r.n (take r.k list') (take c.count values') c.sweeps.begun c.sweeps.quiet ≡ certificate_of file
    unfolding certificate_of
    file-accepted c g =
        ap (λ (x : CutCounted). accepted_text r.n (take r.k list') (take x.count values') x.sweeps.begun x.sweeps.quiet) g
        ∙ ap₂ (λ (n : ℕ) (w : Sweeps). accepted_text n (take r.k list') (take (given no_cut r.cut).count values') w.begun w.quiet) (n-word file list values r list' values' is e)
        (sweeps-is file list values r list' values' is e)
        ∙ ap₂ (λ (l : List ℕ) (v : List Float). accepted_text (word32 file 4) l v (file_sweeps file).begun (file_sweeps file).quiet)
        (list-front file list values r list' values' is e) (values-front file list values r list' values' is e)
        ∙ done-new (file_reply file).0 (accepted_text (word32 file 4) (file_list file) (file_values file) (file_sweeps file).begun (file_sweeps file).quiet) (refused_line (file_reply file)) e

  -- the same where the cut is at hand
  module _ (cut : CutCounted) (h : r.cut ≡ Ok cut) where
    done-is : (file_reply file).0 ≡ 0
    done-is = was-done r.cut (file_reply file) is.answer h

    cut-is : cut ≡ given no_cut r.cut
    cut-is = sym (ap (given no_cut) h)

    pub cut-done : accepted_text r.n (take r.k list') (take cut.count values') cut.sweeps.begun cut.sweeps.quiet ≡ certificate_of file
    cut-done = file-accepted done-is cut cut-is

    pub cut-printable : Printable (take r.k list') r.n (take cut.count values')
    cut-printable = subst (λ (c : CutCounted). Printable (take r.k list') r.n (take c.count values')) (sym cut-is) (file-printable done-is)

    pub few-listed : r.k ≤ 64
    few-listed = omega (arith, k-word file list values r list' values' is done-is, (fits file list values r list' values' is done-is).k-small)

    pub few-kept : cut.count ≤ 16
    few-kept = omega (arith, ap (λ (c : CutCounted). c.count) cut-is, count-few file list values r list' values' is done-is)
