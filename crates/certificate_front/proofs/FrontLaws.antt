-- Laws of the first part of the pages: how long it is, and the ways out of page one. Assumes nothing.
use mathlib.Core.Path.{◌≡◌, refl, sym, ap, ap₂, ◌∙◌}
use mathlib.Core.Bool.{Bool, false}
use mathlib.Core.List.{List, [], ◌++◌, append_assoc, append-nil}
use Prim.Native.Nat.{ℕ, zero, suc, ◌+◌, ◌-◌, ◌≤◌}
use native.Mathlib.Nat.{zero-add}
use native.Mathlib.Omega.{arith}
use lib.Ieee.{Float}
use borrow.Rule.Slice.PartMut.{mid_of, post_of, put_mid}
use lib.ListN.{length, take, drop, length-append, length-drop, drop_of_length-le}
use lib.Seq.{drop-drop, take_all, length-take-le}
use Rattle.std.specs.Prelude.{Result, Ok, Err}
use Rattle.answers.specs.declared.Refusal.{Refusal}
use Rattle.answers.specs.Paper.{Reply, paper, table, given, if_done}
use Rattle.answers.proofs.PaperLaws.{done-old}
use Rattle.answers.proofs.Stopped.{stopped-number}
use Rattle.cut_values.specs.declared.CutCounted.{CutCounted}
use Rattle.cut_values.specs.Schmidt.{no_cut}
use Rattle.texts.specs.Text.{put, Puts}
use Rattle.texts.proofs.TextLaws.{puts_then, puts-as}
use Rattle.lines.specs.Lines.{refused_word}
use Rattle.certificates.specs.Accepted.{Printable, accepted_text}
use Rattle.certificates.proofs.AcceptedLaws.{accepted-short}
use Rattle.page_lines.specs.PageLines.{bits_line, said_line, list_line, reply_line}
use Rattle.page_lines.proofs.PageLineLaws.{length-bits, length-said, length-list, length-reply}
use Rattle.certificate_front.specs.Front.{page_one_line, page_two_line, digest_word, exact_word, head_text, one_text, front_text, one_of, front_of, Kept}

pub length-head : (page : List ℕ) (digest : ℕ) → length (head_text page digest) ≡ length page + 24
unfolding head_text
length-head page digest = omega (arith, length-append page (bits_line digest_word digest), length-bits digest_word digest)

pub length-one : (a : Reply) (n : ℕ) (l : List ℕ) (values : List Float) (begun : ℕ) (quiet exact : Bool) → (a.0 ≡ 0 → Printable l n values)
    → length (one_text a n l values begun quiet exact) ≤ 2058
unfolding one_text
length-one a n l values begun quiet exact h = go a.0 h
  where
    go : (x : ℕ) → (x ≡ 0 → Printable l n values)
        → length (if_done x (accepted_text n l values begun quiet ++ said_line exact_word exact) (reply_line refused_word a)) ≤ 2058
    go zero p = omega (arith, length-append (accepted_text n l values begun quiet) (said_line exact_word exact), accepted-short n l values begun quiet (p refl), length-said exact_word exact)
    go (suc x) p = omega (arith, length-reply refused_word a)

pub length_front : (digest : ℕ) (a : Reply) (n : ℕ) (l : List ℕ) (values : List Float) (begun : ℕ) (quiet exact : Bool) → (a.0 ≡ 0 → Printable l n values) → length l ≤ 9
    → length (front_text digest a n l values begun quiet exact) ≤ 2314
unfolding front_text
length_front digest a n l values begun quiet exact h few =
    let one = one_text a n l values begun quiet exact in
    omega (
      arith,
      length-append (head_text page_one_line digest ++ one ++ head_text page_two_line digest) (list_line l),
      length-append (head_text page_one_line digest ++ one) (head_text page_two_line digest),
      length-append (head_text page_one_line digest) one,
      length-head page_one_line digest,
      length-one a n l values begun quiet exact h,
      length-head page_two_line digest,
      length-list l,
      few,
    )

-- a text put at the front of what lies past a place is put at that place
pub puts-past : (at k r : ℕ) (t old mid : List ℕ) → at ≤ length old → k ≡ length old - at → Puts 0 t (mid_of at k old) r mid → Puts at t old (at + r) (put_mid at k old mid)
unfolding put
puts-past at k r t old mid h e p =
    let long = length-drop at old in
    let whole : mid_of at k old ≡ drop at old = take_all k (drop at old) (omega (arith, long, e)) in
    let none : post_of at k old ≡ [] = drop_of_length-le (drop at old) {i = k} (omega (arith, long, e)) in
    let rest = drop (at + length t) old in
    let front : mid ≡ t ++ rest =
    p.cells ∙ ap (put 0 t) whole ∙ ap (λ (n : ℕ). t ++ drop n (drop at old)) (zero-add (length t)) ∙ ap (λ (x : List ℕ). t ++ x) (drop-drop (length t) at old) in
    record {
      next = omega (arith, p.next);
      cells = ap₂ (λ (x y : List ℕ). take at old ++ (x ++ y)) front none ∙ ap (λ (x : List ℕ). take at old ++ x) (append-nil (t ++ rest)) ∙ sym (append_assoc (take at old) t rest);
    }

pub mid-long : (at : ℕ) (old : List ℕ) → at ≤ length old → length (mid_of at (length old - at) old) ≡ length old - at
mid-long at old h = length-take-le (length old - at) (drop at old) (omega (arith, length-drop at old))

-- ---- page one of what a cut gave

module _ (cut : Result CutCounted Refusal) (n : ℕ) (l : List ℕ) (values : List Float) where
  -- what its lines ask, of the answer's number
  kept-printable : Kept cut l n values → (paper cut).0 ≡ 0 → Printable l n (take (given no_cut cut).count values)
  kept-printable is = go cut refl
    where
      go : (c : Result CutCounted Refusal) → cut ≡ c → (paper c).0 ≡ 0 → Printable l n (take (given no_cut c).count values)
      go (Ok kept) h z = is.printable kept h
      go (Err e) h z = absurd (stopped-number e z)

  pub length-one_of : Kept cut l n values → length (one_of cut n l values) ≤ 2058
  length-one_of is =
      let k = given no_cut cut in
      length-one (paper cut) n l (take k.count values) k.sweeps.begun k.sweeps.quiet k.exact (kept-printable is)

  pub length-front_of : (digest : ℕ) → Kept cut l n values → length l ≤ 9 → length (front_of digest cut n l values) ≤ 2314
  length-front_of digest is few =
      let k = given no_cut cut in
      length_front digest (paper cut) n l (take k.count values) k.sweeps.begun k.sweeps.quiet k.exact (kept-printable is) few

  -- the cut is refused
  pub one-refused : (e : Refusal) (at r : ℕ) (old new : List ℕ) → cut ≡ Err e → Puts at (reply_line refused_word (table e)) old r new → Puts at (one_of cut n l values) old r new
  unfolding one_text
  one-refused e at r old new h p =
      puts-as at r _ _ old new
      (done-old (table e).0 (accepted_text n l (take 0 values) 0 false ++ said_line exact_word false) (reply_line refused_word (table e)) (stopped-number e)
      ∙ ap (λ (c : Result CutCounted Refusal). one_of c n l values) (sym h)) p

  -- it is accepted
  pub one-done : (kept : CutCounted) (at r t : ℕ) (old mid new : List ℕ) → cut ≡ Ok kept
      → at + length (accepted_text n l (take kept.count values) kept.sweeps.begun kept.sweeps.quiet) ≤ length old
      → Puts at (accepted_text n l (take kept.count values) kept.sweeps.begun kept.sweeps.quiet) old r mid → Puts r (said_line exact_word kept.exact) mid t new
      → Puts at (one_of cut n l values) old t new
  unfolding one_text
  one-done kept at r t old mid new h room p q =
      puts-as at t _ _ old new (ap (λ (c : Result CutCounted Refusal). one_of c n l values) (sym h)) (puts_then at r t _ _ old mid new room p q)
