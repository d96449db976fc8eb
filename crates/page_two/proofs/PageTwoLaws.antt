-- Laws of page two: the density's sizes, the front of its array, and the ways out. Assumes nothing.
use mathlib.Core.Path.{◌≡◌, refl, sym, ap, ap₂, ◌∙◌}
use mathlib.Core.Bool.{Bool}
use mathlib.Core.List.{List, ◌++◌}
use Prim.Native.Nat.{ℕ, zero, suc, ◌+◌, ◌*◌, ◌^◌, ◌≤◌, min}
use native.Mathlib.Omega.{arith}
use borrow.Author.Tests.{ltb-false}
use lib.Dec.{ltb}
use lib.Ieee.{Float}
use lib.ListN.{length, take, length-append}
use lib.Pow.{pow_mono}
use Rattle.std.specs.Prelude.{Ok, Err}
use Rattle.answers.specs.declared.Refusal.{Refusal}
use Rattle.answers.specs.Paper.{Answer, Reply, paper, table, done, refuse, and_then, if_done}
use Rattle.answers.proofs.Stopped.{stopped-number, was-done}
use Rattle.answers.proofs.PaperLaws.{refuse-done, and_then-done, done-new, done-old}
use Rattle.complex.specs.Cells.{components}
use Rattle.qubits.specs.Lists.{density_sizes, qubit_set}
use Rattle.qubit_offsets.specs.Calls.{density_refusal}
use Rattle.density_entries.specs.Entries.{density_cell}
use Rattle.densities.specs.Density.{density_lengths, density_answer, Density}
use Rattle.agreement.proofs.AgreementLaws.{density-left}
use Rattle.density_recount.proofs.Pages.{front}
use Rattle.pages.specs.Agree.{pages_same}
use Rattle.texts.specs.Text.{Puts}
use Rattle.texts.proofs.TextLaws.{puts_then, puts-as}
use Rattle.lines.specs.Lines.{refused_word}
use Rattle.page_lines.specs.PageLines.{reply_line}
use Rattle.page_lines.proofs.PageLineLaws.{length-reply}
use Rattle.page_cells.proofs.PageCellLaws.{square-small}
use Rattle.page_sums.specs.Sums.{Summable}
use Rattle.page_sums.proofs.SumsLaws.{length_whole}
use Rattle.page_matrices.specs.Matrices.{kept_text, matrices_text, Drawn}
use Rattle.page_matrices.proofs.MatricesLaws.{length-kept, length-matrices}
use Rattle.page_two.specs.PageTwo.{page_two_reply, density_of, page_two_text, Shown}

-- a density that the cap lets through has at most 32 rows
pub five : (n k : ℕ) → (density_sizes n k 10).0 ≡ 0 → k ≤ 5
five n k e =
    let B = ltb (min 10 13) (2 * k) in
    let a = refuse-done (ltb n 1) 0 0 (refuse (ltb 12 n) (1, 0) (refuse B (1, 0) done)) e in
    let b = refuse-done (ltb 12 n) 0 0 (refuse B (1, 0) done) a.1 in
    let c = refuse-done B 0 0 done b.1 in
    omega (arith, ltb-false (min 10 13) (2 * k) c.0)

few : (s : List Float) (n : ℕ) (l : List ℕ) (o w : ℕ) → (density_answer s n l 10 o w).0 ≡ 0 → length l ≤ 5
few s n l o w e =
    let L = density_lengths (2 ^ n) (2 ^ length l) (length s) o w in
    five n (length l) (and_then-done (density_sizes n (length l) 10) (qubit_set n l) (and_then-done (density_refusal n 10 l) (and_then L (components 0 s)) e).0).0

rows : (s : List Float) (n : ℕ) (l : List ℕ) (o w : ℕ) → (density_answer s n l 10 o w).0 ≡ 0 → 2 ^ length l ≤ 32
rows s n l o w e = pow_mono {i = length l} {j = 5} (few s n l o w e)

some-rows : (k : ℕ) → 1 ≤ 2 ^ k
some-rows k = pow_mono {i = 0} {j = k} (omega arith)

-- how long page two is
pub length_two : (s : List Float) (n : ℕ) (l : List ℕ) (accepted : Bool) (total : ℕ) → length (page_two_text s n l accepted total) ≤ 98400
unfolding page_two_text page_two_reply
length_two s n l accepted total = go (density_answer s n l 10 2048 64).0 (λ e. rows s n l 2048 64 e)
  where
    R : Reply
    R = density_answer s n l 10 2048 64

    go : (x : ℕ) → (x ≡ 0 → 2 ^ length l ≤ 32)
        → length (if_done x (matrices_text (density_of s n l) (2 ^ length l) accepted total (pages_same s n l)) (reply_line refused_word R ++ kept_text accepted total)) ≤ 98400
    go zero h = length-matrices (density_of s n l) (2 ^ length l) accepted total (pages_same s n l) (some-rows (length l)) (h refl)
    go (suc x) h = omega (arith, length-append (reply_line refused_word R) (kept_text accepted total), length-reply refused_word R, length-kept accepted total)

module _ {s : List Float} {n : ℕ} {l : List ℕ} {o w : List Float} {a : Answer} {d w' : List Float} (f : Density s n l 10 o w a d w') (eo : length o ≡ 2048) (ew : length w ≡ 64) where
  said : paper a ≡ page_two_reply s n l
  unfolding page_two_reply
  said = f.answer ∙ ap₂ (density_answer s n l 10) eo ew

  -- the density is refused
  pub two-refused : (accepted : Bool) (total at r t : ℕ) (old mid new : List ℕ) (e : Refusal) → a ≡ Err e → at + 98500 ≤ length old
      → Puts at (reply_line refused_word (table e)) old r mid → Puts r (kept_text accepted total) mid t new → Puts at (page_two_text s n l accepted total) old t new
  unfolding page_two_text
  two-refused accepted total at r t old mid new e h room p q =
      let is : table e ≡ page_two_reply s n l = ap paper (sym h) ∙ said in
      puts-as at t _ _ old new
      (ap (λ (x : Reply). reply_line refused_word x ++ kept_text accepted total) is
      ∙ done-old (page_two_reply s n l).0 (matrices_text (density_of s n l) (2 ^ length l) accepted total (pages_same s n l)) (reply_line refused_word (page_two_reply s n l) ++ kept_text accepted total)
      (λ z. stopped-number e (ap (λ (x : Reply). x.0) is ∙ z)))
      (puts_then at r t (reply_line refused_word (table e)) (kept_text accepted total) old mid new (omega (arith, room, length-reply refused_word (table e))) p q)

  -- it is accepted
  module _ (h : a ≡ Ok tt) where
    zero-said : (page_two_reply s n l).0 ≡ 0
    zero-said = was-done a (page_two_reply s n l) said h

    answered : (density_answer s n l 10 2048 64).0 ≡ 0
    unfolding page_two_reply
    answered = zero-said

    pub listed-few : length l ≤ 5
    listed-few = few s n l 2048 64 answered

    -- the front of the array is the density, and fits into it
    module _ (dim : ℕ) (g : dim ≡ 2 ^ length l) where
      pub square-fits : (dim ≤ 32) × (dim * dim ≤ 1024)
      square-fits = let few : dim ≤ 32 = rw g (rows s n l 2048 64 answered) in (few, square-small dim few)

      pub front-is : take (2 * (dim * dim)) d ≡ density_of s n l
      front-is =
          ap₂ (λ (k : ℕ) (x : List Float). take (2 * (k * k)) x) g (density-left s n l 10 o w a d w' f (ap (λ (r : Answer). (paper r).0) h))
          ∙ front (2 ^ length l * 2 ^ length l) (density_cell n l s) o

      pub sums-asked : (at room : ℕ) → Shown n l at room → Summable s n l (take (2 * (dim * dim)) d)
      sums-asked at room is = record { small = is.small; taken = is.taken; accepted = answered; density = front-is }

      pub matrices-asked : (at room : ℕ) → Shown n l at room → Drawn dim (take (2 * (dim * dim)) d) at room
      matrices-asked at room is = record {
        some = rw g (some-rows (length l));
        small = square-fits.0;
        cells = omega (arith, ap length front-is, length_whole (2 ^ length l * 2 ^ length l) (density_cell n l s), ap (λ (k : ℕ). k * k) g);
        fits = is.fits;
      }

      pub two-done : (accepted : Bool) (total : ℕ) (same : Bool) (at r : ℕ) (old new : List ℕ) → same ≡ pages_same s n l
          → Puts at (matrices_text (take (2 * (dim * dim)) d) dim accepted total same) old r new → Puts at (page_two_text s n l accepted total) old r new
      unfolding page_two_text
      two-done accepted total same at r old new i p =
          puts-as at r _ _ old new
          (ap₂ (λ (x : List Float) (y : ℕ). matrices_text x y accepted total same) front-is g
          ∙ ap (matrices_text (density_of s n l) (2 ^ length l) accepted total) i
          ∙ done-new (page_two_reply s n l).0 (matrices_text (density_of s n l) (2 ^ length l) accepted total (pages_same s n l)) (reply_line refused_word (page_two_reply s n l) ++ kept_text accepted total) zero-said) p
