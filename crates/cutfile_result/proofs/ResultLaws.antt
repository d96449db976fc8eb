-- Laws of the result of a file. Assumes nothing.
use mathlib.Core.Path.{◌≡◌, refl, sym, ap, ap₂, subst, ◌∙◌}
use mathlib.Core.Bool.{false}
use mathlib.Core.List.{List}
use Prim.Native.Nat.{ℕ, zero, suc, ◌*◌, ◌^◌}
use native.Mathlib.Omega.{arith}
use lib.Ieee.{Float}
use lib.ListN.{length, take}
use Rattle.std.specs.Prelude.{Ok, Err}
use Rattle.std.specs.Prelude as Std
use Rattle.answers.specs.declared.Refusal.{Refusal}
use Rattle.answers.specs.Paper.{Reply, paper, after, if_done, at_end}
use Rattle.answers.proofs.Stopped.{stopped-number}
use Rattle.answers.proofs.PaperLaws.{stays, done-new, done-old}
use Rattle.complex.specs.Zeros.{zeroed}
use Rattle.cutfile.specs.Bytes.{word32}
use Rattle.cutfile.specs.Layout.{header_answer, LongEnough, Header·is, file_entry, component_at}
use Rattle.cutfile.specs.declared.Header.{Header}
use Rattle.cutfile.proofs.LayoutLaws.{accepted}
use Rattle.tables.specs.Tables.{filled}
use Rattle.tables.proofs.TablesLaws.{take-filled}
use Rattle.sweeps.specs.Sweeping.{no_sweeps}
use Rattle.finish.specs.Finish.{padded}
use Rattle.cut_values.specs.declared.CutCounted.{CutCounted}
use Rattle.cut_values.specs.Schmidt.{cut_rows, cut_sweeps, cut_exact, cut_values_answer, Schmidt}
use Rattle.cutfile_result.specs.Result.{list_of, state_of, cut_reply, values_of, values_at, library_reply, file_reply, file_list, file_values, file_sweeps, file_exact, Valued, FileValued, Result}

-- ---- the library's call over the room that is lent here

pub valued : (state : List Float) (n : ℕ) (list : List ℕ) (values scratch : List Float) → length values ≡ 16 → length scratch ≡ 4128 → (r : Std.Result CutCounted Refusal)
    (end scratch' : List Float) → Schmidt state n list 10 values scratch r end scratch'
    → Valued state n list values r end
unfolding cut_reply
valued state n list values scratch lv ls r end scratch' is =
    let e : paper r ≡ cut_reply state n list = is.answer ∙ ap₂ (cut_values_answer state n list 10) lv ls in
    let x : (paper r).0 ≡ (cut_reply state n list).0 = ap (λ (a : Reply). a.0) e in
    record {
      answer = e;
      count = is.count ∙ ap (λ (a : ℕ). if_done a (length (values_of state n list)) 0) x;
      sweeps-are = is.sweeps-are ∙ ap (λ (a : ℕ). if_done a (cut_sweeps state n list) no_sweeps) x;
      exact-is = is.exact-is ∙ ap (λ (a : ℕ). if_done a (cut_exact state n list) false) x;
      values-are =
          is.out-is
          ∙ ap (λ (a : ℕ). at_end a (padded (cut_rows n list) (values_of state n list) values) (zeroed (cut_rows n list) values) values) x;
    }

-- what was decoded is what the file holds
pub file-valued : (file : List ℕ) (n k m : ℕ) (old list : List ℕ) (before state : List Float) (values : List Float) (r : Std.Result CutCounted Refusal) (end : List Float) → m ≡ 2 * 2 ^ n
    → list ≡ filled k (file_entry file) old → state ≡ filled (2 * 2 ^ n) (component_at file k) before
    → Valued (take m state) n (take k list) values r end → FileValued file n k old values r list end
file-valued file n k m old list before state values r end l e f v =
    record {
      list-is = e;
      valued =
          subst (λ (s : List Float). Valued s n (list_of file k) values r end)
          (ap₂ (λ (m : ℕ) (s : List Float). take m s) l f ∙ take-filled (2 * 2 ^ n) (component_at file k) before)
          (subst (λ (q : List ℕ). Valued (take m state) n q values r end) (ap (take k) e ∙ take-filled k (file_entry file) old) v);
    }

-- ---- the header decides

passes : (k : ℕ) (x b : Reply) → k ≡ 0 → after k x b ≡ b
passes zero x b e = refl
passes (suc k) x b e = absurd (omega arith)

-- it is refused: nothing was touched
pub header_refused : (file : List ℕ) (e : Refusal) → Header·is file (Err e) → (list : List ℕ) (values : List Float)
    → Result file list values (record { n = 0; k = 0; cut = Err e }) list values
unfolding file_reply
header_refused file e is list values =
    let g : (header_answer file).0 ≡ 0 → ⊥ = λ z. stopped-number e (ap (λ (r : Reply). r.0) is.answer-is ∙ z) in
    let s : header_answer file ≡ file_reply file = stays (header_answer file) (library_reply file (word32 file 4) (word32 file 8)) g in
    let f : (file_reply file).0 ≡ 0 → ⊥ = λ z. g (ap (λ (r : Reply). r.0) s ∙ z) in
    record {
      answer = is.answer-is ∙ s;
      n-is = is.n-is;
      k-is = is.k-is;
      count = done-old (file_reply file).0 (length (file_values file)) 0 f;
      sweeps-are = done-old (file_reply file).0 (file_sweeps file) no_sweeps f;
      exact-is = done-old (file_reply file).0 (file_exact file) false f;
      list-is = done-old (header_answer file).0 (filled (word32 file 8) (file_entry file) list) list g;
      values-are = done-old (header_answer file).0 (values_at (state_of file (word32 file 4) (word32 file 8)) (word32 file 4) (file_list file) values) values g;
      list-long = refl;
      values-long = refl;
    }

-- it is not
module _ (file : List ℕ) (h : Header) (is : Header·is file (Ok h)) where
  answered : (header_answer file).0 ≡ 0
  answered = ap (λ (r : Reply). r.0) (sym is.answer-is)

  n-word : h.n ≡ word32 file 4
  n-word = is.n-is ∙ sym (done-new (header_answer file).0 (word32 file 4) 0 answered)

  k-word : h.k ≡ word32 file 8
  k-word = is.k-is ∙ sym (done-new (header_answer file).0 (word32 file 8) 0 answered)

  pub header-fits : LongEnough file h.n h.k
  header-fits = rw (n-word, k-word) (accepted file answered).0

  -- the library's call decides
  pub header-done : (list : List ℕ) (values : List Float) (r : Std.Result CutCounted Refusal) (list' : List ℕ) (values' : List Float)
      → FileValued file h.n h.k list values r list' values' → length list' ≡ length list → length values' ≡ length values
      → Result file list values (record { n = h.n; k = h.k; cut = r }) list' values'
  unfolding file_reply
  header-done list values r list' values' v ll lv =
      let w : FileValued file (word32 file 4) (word32 file 8) list values r list' values'
      = subst (λ (k : ℕ). FileValued file (word32 file 4) k list values r list' values') k-word
      (subst (λ (n : ℕ). FileValued file n h.k list values r list' values') n-word v) in
      let L = library_reply file (word32 file 4) (word32 file 8) in
      let s : file_reply file ≡ L = passes (header_answer file).0 (header_answer file) L answered in
      record {
        answer = w.valued.answer ∙ sym s;
        n-is = is.n-is;
        k-is = is.k-is;
        count = w.valued.count ∙ ap (λ (a : Reply). if_done a.0 (length (file_values file)) 0) (sym s);
        sweeps-are = w.valued.sweeps-are ∙ ap (λ (a : Reply). if_done a.0 (file_sweeps file) no_sweeps) (sym s);
        exact-is = w.valued.exact-is ∙ ap (λ (a : Reply). if_done a.0 (file_exact file) false) (sym s);
        list-is = w.list-is ∙ done-new (header_answer file).0 (filled (word32 file 8) (file_entry file) list) list answered;
        values-are =
            w.valued.values-are
            ∙ done-new (header_answer file).0 (values_at (state_of file (word32 file 4) (word32 file 8)) (word32 file 4) (file_list file) values) values answered;
        list-long = ll;
        values-long = lv;
      }
