-- Laws of both pages: what is printed of a file's result, and the ways out of the calls. Assumes nothing.
use mathlib.Core.Path.{◌≡◌, refl, sym, ap, ap₂, subst, ◌∙◌}
use mathlib.Core.Bool.{Bool, true, false, true≢false}
use mathlib.Core.List.{List, ◌++◌}
use mathlib.Core.Logic.{inl, inr}
use Prim.Native.Nat.{ℕ, zero, suc, ◌≤◌, ◌<◌}
use native.Mathlib.Omega.{arith}
use native.Mathlib.Nat.{zero-add}
use borrow.Author.Tests.{lt-ltb, le-ltb, ltb-true, ltb-false, ne_eqb}
use lib.Dec.{ltb, eqb}
use lib.Ieee.{Float}
use lib.ListN.{length, take, length-append}
use lib.Seq.{length-take-le}
use Rattle.std.specs.Prelude.{Result, Ok, Err, is_ok}
use Rattle.answers.specs.declared.Refusal.{Refusal}
use Rattle.answers.specs.declared.Refusal.TheVariants.{Length}
use Rattle.answers.specs.Paper.{Reply, paper, table, given, done, refuse, and_then, if_done, if_worked, room}
use Rattle.answers.proofs.Stopped.{stopped-number}
use Rattle.answers.proofs.PaperLaws.{Ended, done-new, worked-new, worked-old, worked-above}
use Rattle.sweeps.specs.declared.Sweeps.{Sweeps}
use Rattle.cut_values.specs.Schmidt.{no_cut}
use Rattle.io.specs.Counts.{IsPrefixLen}
use Rattle.cutfile.specs.Bytes.{word32}
use Rattle.cutfile.specs.Layout.{header_answer, LongEnough, file_entry}
use Rattle.cutfile.proofs.LayoutLaws.{accepted}
use Rattle.tables.specs.Tables.{filled}
use Rattle.tables.proofs.TablesLaws.{take-filled}
use Rattle.cut_sides.proofs.SideLaws.{is-parted}
use Rattle.cutfile_result.specs.declared.CutResult.{CutResult}
use Rattle.cutfile_result.specs.Result.{state_of, file_reply, file_list, file_values, file_sweeps, file_exact}
use Rattle.cutfile_result.specs.Result as Given
use Rattle.cutfile_result.proofs.Few.{sweeps-is, exact-file, values-front}
use Rattle.texts.specs.Text.{put, Puts}
use Rattle.texts.proofs.TextLaws.{puts_then, puts-as, length-puts}
use Rattle.lines.specs.Lines.{refused_word, refused_line}
use Rattle.lines.proofs.LineLaws.{length-refused}
use Rattle.digests.specs.Digest.{digest_of}
use Rattle.certificates.specs.declared.Written.{Written}
use Rattle.certificates.specs.Accepted.{accepted_text}
use Rattle.certificates.proofs.CertificateLaws.{cut-printable, few-kept}
use Rattle.page_lines.specs.PageLines.{said_line, list_line, reply_line}
use Rattle.certificate_front.specs.Front.{page_one_line, page_two_line, exact_word, head_text, one_text, front_text, front_of, Kept, FrontReady}
use Rattle.certificate_front.proofs.FrontLaws.{length-front_of}
use Rattle.certificate_back.specs.Back.{back_text, BackReady}
use Rattle.certificate_back.proofs.BackLaws.{length_back}
use Rattle.certificate_pages.specs.Pages.{pages_text, pages_of, Called, PagesThere}
use Rattle.certificate_pages.proofs.BegunLaws.{begun-header, begun-taken}

-- ---- whether the work was begun

begun-yes : (x : ℕ) → if_worked x true false ≡ true → Ended x
begun-yes zero f = inl refl
begun-yes (suc x) f = go (ltb (suc x) 8) refl (ltb 9 (suc x)) refl
  where
    go : (t : Bool) → ltb (suc x) 8 ≡ t → (u : Bool) → ltb 9 (suc x) ≡ u → Ended (suc x)
    go true p u q = absurd (true≢false (sym f ∙ sym (worked-old (suc x) true false (λ z. omega (arith, z)) (ltb-true (suc x) 8 p))))
    go false p true q = absurd (true≢false (sym f ∙ sym (worked-above (suc x) true false (ltb-true 9 (suc x) q))))
    go false p false q = inr (ltb-false (suc x) 8 p, ltb-false 9 (suc x) q)

begun-no : (x : ℕ) → if_worked x true false ≡ false → Ended x → ⊥
begun-no x f h = true≢false (worked-new x true false h ∙ f)

none-begun : {A : Type 0} (x : ℕ) (new old : A) → (Ended x → ⊥) → old ≡ if_worked x new old
none-begun zero new old h = absurd (h (inl refl))
none-begun {A} (suc x) new old h = go (ltb (suc x) 8) refl (ltb 9 (suc x)) refl
  where
    go : (t : Bool) → ltb (suc x) 8 ≡ t → (u : Bool) → ltb 9 (suc x) ≡ u → old ≡ if_worked (suc x) new old
    go true p u q = worked-old (suc x) new old (λ z. omega (arith, z)) (ltb-true (suc x) 8 p)
    go false p true q = worked-above (suc x) new old (ltb-true 9 (suc x) q)
    go false p false q = absurd (h (inr (ltb-false (suc x) 8 p, ltb-false 9 (suc x) q)))

done-same : {A : Type 0} (x : ℕ) (p q rest : A) → (x ≡ 0 → p ≡ q) → if_done x p rest ≡ if_done x q rest
done-same zero p q rest h = h refl
done-same (suc x) p q rest h = refl

-- ---- a file's result

ok-number : {A : Type 0} (r : Result A Refusal) → is_ok r ≡ eqb (paper r).0 0
ok-number (Ok x) = refl
ok-number (Err e) = sym (ne_eqb (table e).0 0 (stopped-number e))

module _ (file list : List ℕ) (values : List Float) (r : CutResult) (list' : List ℕ) (values' : List Float) (is : Given.Result file list values r list' values') where
  number_is : (paper r.cut).0 ≡ (file_reply file).0
  number_is = ap (λ (a : Reply). a.0) is.answer

  -- the work was not begun
  pub pages-refused : (e : Refusal) (old : List ℕ) (len : ℕ) (new : List ℕ) → r.cut ≡ Err e → if_worked (table e).0 true false ≡ false → Puts 0 (refused_line (table e)) old len new
      → PagesThere file old len new
  unfolding pages_of
  pages-refused e old len new h f p =
      let said : table e ≡ file_reply file = ap paper (sym h) ∙ is.answer in
      let same : refused_line (table e) ≡ pages_of file =
      ap refused_line said
      ∙ none-begun (file_reply file).0 (pages_text file) (refused_line (file_reply file)) (λ g. begun-no (table e).0 f (subst Ended (sym (ap (λ (a : Reply). a.0) said)) g)) in
      record { puts = puts-as 0 len _ _ old new same p; short = omega (arith, ap length same, length-refused (table e)) }

  -- it was
  module _ (w : if_worked (paper r.cut).0 true false ≡ true) where
    ended : Ended (file_reply file).0
    ended = subst Ended number_is (begun-yes (paper r.cut).0 w)

    header : (header_answer file).0 ≡ 0
    header = begun-header file ended

    n-is : r.n ≡ word32 file 4
    n-is = is.n-is ∙ sym (done-new (header_answer file).0 (word32 file 4) 0 header)

    k-is : r.k ≡ word32 file 8
    k-is = is.k-is ∙ sym (done-new (header_answer file).0 (word32 file 8) 0 header)

    list-is : take r.k list' ≡ file_list file
    list-is =
        ap₂ (λ (k : ℕ) (l : List ℕ). take k l) k-is (is.list-is ∙ sym (done-new (header_answer file).0 (filled (word32 file 8) (file_entry file) list) list header))
        ∙ take-filled (word32 file 8) (file_entry file) list

    fits : LongEnough file (word32 file 4) (word32 file 8)
    fits = (accepted file header).0

    pub few-named : r.k ≤ 64
    few-named = omega (arith, k-is, fits.k-small)

    short : length (take r.k list') ≤ 9
    short = let p = is-parted (file_list file) (word32 file 4) 10 (begun-taken file ended) in omega (arith, ap length list-is, p.listed.short, fits.n-small)

    kept-is : 16 ≤ length values' → Kept r.cut (take r.k list') r.n values'
    kept-is long = record {
      held = λ c h. omega (arith, long, few-kept file list values r list' values' is c h);
      printable = λ c h. cut-printable file list values r list' values' is c h;
    }

    pub front-asked : (room : ℕ) → 16 ≤ length values' → 102400 ≤ room → FrontReady r.cut (take r.k list') r.n values' room
    front-asked room long h = record { kept = kept-is long; few = short; fits = omega (arith, h) }

    pub back-asked : (at room : ℕ) → 102400 ≤ room → at ≤ 2314 → BackReady file r.n r.k (take r.k list') at room
    back-asked at room h le = record {
      fits = rw (n-is, k-is) fits;
      taken = rw (n-is, list-is) (begun-taken file ended);
      room-left = omega (arith, h, le);
    }

    -- page one's lines are the file's: where it is refused by 8 or 9 the values do not stand in them
    one_same : one_text (file_reply file) (word32 file 4) (file_list file) (take (given no_cut r.cut).count values') (given no_cut r.cut).sweeps.begun (given no_cut r.cut).sweeps.quiet (given no_cut r.cut).exact
        ≡ one_text (file_reply file) (word32 file 4) (file_list file) (file_values file) (file_sweeps file).begun (file_sweeps file).quiet (file_exact file)
    unfolding one_text
    one_same =
        done-same (file_reply file).0 _ _ (reply_line refused_word (file_reply file))
        (λ e. ap₂ (λ (v : List Float) (w : Sweeps). accepted_text (word32 file 4) (file_list file) v w.begun w.quiet ++ said_line exact_word (given no_cut r.cut).exact)
        (values-front file list values r list' values' is e) (sweeps-is file list values r list' values' is e)
        ∙ ap (λ (b : Bool). accepted_text (word32 file 4) (file_list file) (file_values file) (file_sweeps file).begun (file_sweeps file).quiet ++ said_line exact_word b)
        (exact-file file list values r list' values' is e))

    front_same : (digest : ℕ) → digest ≡ digest_of file
        → front_of digest r.cut r.n (take r.k list') values'
        ≡ front_text (digest_of file) (file_reply file) (word32 file 4) (file_list file) (file_values file) (file_sweeps file).begun (file_sweeps file).quiet (file_exact file)
    unfolding front_text
    front_same digest e =
        let c = given no_cut r.cut in
        ap₂ (λ (d : ℕ) (a : Reply). front_text d a r.n (take r.k list') (take c.count values') c.sweeps.begun c.sweeps.quiet c.exact) e is.answer
        ∙ ap₂ (λ (n : ℕ) (l : List ℕ). front_text (digest_of file) (file_reply file) n l (take c.count values') c.sweeps.begun c.sweeps.quiet c.exact) n-is list-is
        ∙ ap (λ (t : List ℕ). head_text page_one_line (digest_of file) ++ t ++ head_text page_two_line (digest_of file) ++ list_line (file_list file)) one_same

    back-same : (b : Bool) → b ≡ is_ok r.cut
        → back_text (state_of file r.n r.k) r.n (take r.k list') b
        ≡ back_text (state_of file (word32 file 4) (word32 file 8)) (word32 file 4) (file_list file) (eqb (file_reply file).0 0)
    back-same b e =
        ap₂ (λ (n k : ℕ). back_text (state_of file n k) n (take r.k list') b) n-is k-is
        ∙ ap₂ (λ (l : List ℕ) (x : Bool). back_text (state_of file (word32 file 4) (word32 file 8)) (word32 file 4) l x) list-is
        (e ∙ ok-number r.cut ∙ ap (λ (y : ℕ). eqb y 0) number_is)

    pub next-few : (digest next : ℕ) (old mid : List ℕ) → 16 ≤ length values' → Puts 0 (front_of digest r.cut r.n (take r.k list') values') old next mid → next ≤ 2314
    next-few digest next old mid long p = omega (arith, p.next, length-front_of r.cut r.n (take r.k list') values' digest (kept-is long) short)

    pub pages-done : (digest next len : ℕ) (b : Bool) (old mid new : List ℕ) → 16 ≤ length values' → digest ≡ digest_of file → b ≡ is_ok r.cut → 102400 ≤ length old
        → Puts 0 (front_of digest r.cut r.n (take r.k list') values') old next mid
        → Puts next (back_text (state_of file r.n r.k) r.n (take r.k list') b) mid len new
        → PagesThere file old len new
    unfolding pages_of pages_text
    pages-done digest next len b old mid new long ed eb room p q =
        let few = next-few digest next old mid long p in
        let F = front_of digest r.cut r.n (take r.k list') values' in
        let B = back_text (state_of file r.n r.k) r.n (take r.k list') b in
        let e : F ++ B ≡ pages_of file =
        ap₂ (λ (x y : List ℕ). x ++ y) (front_same digest ed) (back-same b eb) ∙ worked-new (file_reply file).0 (pages_text file) (refused_line (file_reply file)) ended in
        record {
          puts = puts-as 0 len _ _ old new e (puts_then 0 next len F B old mid new (omega (arith, p.next, few, room)) p q);
          short = omega (arith, ap length e, length-append F B, p.next, few, length_back (state_of file r.n r.k) r.n (take r.k list') b);
        }

-- ---- the calls

pub called-short : (need : ℕ) (reply : Reply) (print old : List ℕ) → length old < need → Called need reply print old (record { answer = Err (Length 1); length = 0 }) old
called-short need reply print old h =
    let e : room 1 (length old) need ≡ (6, 1) = ap (λ (t : Bool). refuse t (6, 1) done) (lt-ltb (length old) need h) in
    record {
      answer = ap (λ (a : Reply). and_then a reply) (sym e);
      length-is = ap (λ (a : Reply). if_done a.0 (length print) 0) (sym e);
      text-is = ap (λ (a : Reply). if_done a.0 (put 0 print old) old) (sym e);
    }

module _ (need : ℕ) (reply : Reply) (print old : List ℕ) (r : Written) (new : List ℕ) (h : need ≤ length old) (p : Puts 0 print old r.length new) where
  pub called-done : paper r.answer ≡ reply → Called need reply print old r new
  called-done a =
      let e : room 1 (length old) need ≡ done = ap (λ (t : Bool). refuse t (6, 1) done) (le-ltb (length old) need h) in
      record {
        answer = a ∙ ap (λ (x : Reply). and_then x reply) (sym e);
        length-is = p.next ∙ zero-add (length print) ∙ ap (λ (x : Reply). if_done x.0 (length print) 0) (sym e);
        text-is = p.cells ∙ ap (λ (x : Reply). if_done x.0 (put 0 print old) old) (sym e);
      }

  pub called-counts : length print ≤ need → IsPrefixLen r.length new
  called-counts s =
      let l = length-puts 0 r.length print old new (omega (arith, s, h)) p in
      let g : r.length ≤ length new = omega (arith, p.next, s, h, l) in
      (g, sym (length-take-le r.length new g))

pub none-counts : (l : List ℕ) → IsPrefixLen 0 l
none-counts l = (omega arith, refl)
