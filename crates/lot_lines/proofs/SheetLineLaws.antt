-- Laws of a sheet's lines: how long they are, a step of the loop, and the whole. Assumes nothing.
use mathlib.Core.Path.{◌≡◌, sym, subst}
use mathlib.Core.List.{List, ◌++◌}
use Prim.Native.Nat.{ℕ, zero, suc, ◌+◌, ◌*◌, ◌≤◌, ◌<◌}
use native.Mathlib.Numerals.{add-one}
use native.Mathlib.Omega.{arith}
use lib.ListN.{length, get_or, drop, length-append, length-drop}
use lib.Seq.{length-take-le}
use Rattle.io.specs.Counts.{IsPrefixLen}
use Rattle.texts.specs.Text.{Puts, line, pair_line}
use Rattle.texts.proofs.TextLaws.{puts_then, puts_none, length-puts, length-line, length-pair}
use Rattle.lot_lines.specs.SheetLines.{lot_word, answer_word, rank_word, smallest_word, largest_word, sum_word, count_lines, mark_lines, answers_of, ranks_of, sheet_text}

pub length-counts : (w : List ℕ) (f m : ℕ) (l : List ℕ) → length w ≤ 7 → length (count_lines w f m l) ≤ 49 * m
unfolding count_lines
length-counts w f zero l h = omega arith
length-counts w f (suc m) l h =
    omega (arith, length-append (count_lines w f m l) (pair_line w (f + m) (get_or l m 0)), length-counts w f m l h, length-pair w (f + m) (get_or l m 0))

pub counts-none : (at : ℕ) (w : List ℕ) (f : ℕ) (l d : List ℕ) → Puts at (count_lines w f 0 l) d at d
unfolding count_lines
counts-none at w f l d = puts_none at d

-- a step: r is past the lines that were put, and the next one is put there
pub counts_step : (at : ℕ) (w : List ℕ) (f m r s : ℕ) (l old mid new : List ℕ) → at + 49 * length l ≤ length old → length w ≤ 7 → m < length l
    → Puts at (count_lines w f m l) old r mid → Puts r (pair_line w (f + m) (get_or l m 0)) mid s new → Puts at (count_lines w f (m + 1) l) old s new
unfolding count_lines
counts_step at w f m r s l old mid new room h n p q =
    rw add-one (puts_then at r s (count_lines w f m l) _ old mid new (omega (arith, length-counts w f m l h)) p q)

pub counts-room : (at : ℕ) (w : List ℕ) (f m r : ℕ) (l old out : List ℕ) → at + 49 * length l ≤ length old → length w ≤ 7 → m ≤ length l
    → Puts at (count_lines w f m l) old r out → (length out ≡ length old) × (r ≤ at + 49 * m)
counts-room at w f m r l old out room h n p =
    let i = length-counts w f m l h in
    (length-puts at r (count_lines w f m l) old out (omega arith) p, omega (arith, p.next))

pub counts_end : (at : ℕ) (w : List ℕ) (f m r : ℕ) (l old out : List ℕ) → Puts at (count_lines w f m l) old r out → m ≤ length l → length l ≤ m
    → Puts at (count_lines w f (length l) l) old r out
counts_end at w f m r l old out p h k =
    let e : m ≡ length l = omega arith in
    subst (λ (n : ℕ). Puts at (count_lines w f n l) old r out) e p

-- the last three lines
pub three-lines : (at r s t : ℕ) (l old a b c : List ℕ) → at + 130 ≤ length old → Puts at (pair_line smallest_word (get_or l 27 0) (get_or l 28 0)) old r a
    → Puts r (pair_line largest_word (get_or l 29 0) (get_or l 30 0)) a s b → Puts s (line sum_word (get_or l 31 0)) b t c → Puts at (mark_lines l) old t c
unfolding mark_lines
three-lines at r s t l old a b c room p q v =
    let x = pair_line smallest_word (get_or l 27 0) (get_or l 28 0) in
    let y = pair_line largest_word (get_or l 29 0) (get_or l 30 0) in
    let i = length-pair smallest_word (get_or l 27 0) (get_or l 28 0) in
    let j = length-pair largest_word (get_or l 29 0) (get_or l 30 0) in
    puts_then at s t (x ++ y) (line sum_word (get_or l 31 0)) old b c (omega (arith, length-append x y, i, j)) (puts_then at r s x y old a b (omega (arith, i)) p q) v

pub length-marks : (l : List ℕ) → length (mark_lines l) ≤ 130
unfolding mark_lines
length-marks l =
    let a = pair_line smallest_word (get_or l 27 0) (get_or l 28 0) in
    let b = pair_line largest_word (get_or l 29 0) (get_or l 30 0) in
    let c = line sum_word (get_or l 31 0) in
    omega (
      arith,
      length-append (a ++ b) c,
      length-append a b,
      length-pair smallest_word (get_or l 27 0) (get_or l 28 0),
      length-pair largest_word (get_or l 29 0) (get_or l 30 0),
      length-line sum_word (get_or l 31 0),
    )

-- the rows' lengths
pub eleven : (l : List ℕ) → length l ≡ 32 → length (answers_of l) ≡ 11
eleven l e = length-take-le 11 l (omega arith)

pub sixteen : (l : List ℕ) → length l ≡ 32 → length (ranks_of l) ≡ 16
sixteen l e = length-take-le 16 (drop 11 l) (omega (arith, length-drop 11 l))

-- the three front texts
front_length : (count : ℕ) (l : List ℕ) → length l ≡ 32
    → length (line lot_word count ++ count_lines answer_word 0 (length (answers_of l)) (answers_of l) ++ count_lines rank_word 1 (length (ranks_of l)) (ranks_of l)) ≤ 1348
front_length count l e =
    let a = line lot_word count in
    let b = count_lines answer_word 0 (length (answers_of l)) (answers_of l) in
    let c = count_lines rank_word 1 (length (ranks_of l)) (ranks_of l) in
    omega (
      arith,
      length-append (a ++ b) c,
      length-append a b,
      length-line lot_word count,
      length-counts answer_word 0 (length (answers_of l)) (answers_of l) (omega arith),
      length-counts rank_word 1 (length (ranks_of l)) (ranks_of l) (omega arith),
      eleven l e,
      sixteen l e,
    )

-- the four texts, one after the other
pub all_lines : (count : ℕ) (l : List ℕ) (r s t u : ℕ) (old a b c d : List ℕ) → length l ≡ 32 → 2048 ≤ length old → Puts 0 (line lot_word count) old r a
    → Puts r (count_lines answer_word 0 (length (answers_of l)) (answers_of l)) a s b → Puts s (count_lines rank_word 1 (length (ranks_of l)) (ranks_of l)) b t c
    → Puts t (mark_lines l) c u d → Puts 0 (sheet_text count l) old u d
unfolding sheet_text
all_lines count l r s t u old a b c d e room p q v w =
    let x = line lot_word count in
    let y = count_lines answer_word 0 (length (answers_of l)) (answers_of l) in
    let z = count_lines rank_word 1 (length (ranks_of l)) (ranks_of l) in
    let i = front_length count l e in
    let m = length-append (x ++ y) z in
    let n = length-append x y in
    puts_then 0 t u (x ++ y ++ z) (mark_lines l) old c d (omega arith)
    (puts_then 0 s t (x ++ y) z old b c (omega arith) (puts_then 0 r s x y old a b (omega arith) p q) v) w

-- the whole fits a buffer of 2,048 bytes
pub length-sheet : (count : ℕ) (l : List ℕ) → length l ≡ 32 → length (sheet_text count l) ≤ 2048
unfolding sheet_text
length-sheet count l e =
    let x = line lot_word count in
    let y = count_lines answer_word 0 (length (answers_of l)) (answers_of l) in
    let z = count_lines rank_word 1 (length (ranks_of l)) (ranks_of l) in
    omega (arith, length-append (x ++ y ++ z) (mark_lines l), front_length count l e, length-marks l)

-- a text that was put at the front of a buffer with room for it
pub puts-counts : (t old : List ℕ) (r : ℕ) (new : List ℕ) → length t ≤ length old → Puts 0 t old r new → IsPrefixLen r new
puts-counts t old r new h p =
    let l : length new ≡ length old = length-puts 0 r t old new (omega arith) p in
    let k : r ≤ length new = omega (arith, p.next) in
    (k, sym (length-take-le r new k))
