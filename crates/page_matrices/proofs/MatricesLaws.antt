-- Laws of page two's lines: how long they are, and the ways out of each function. Assumes nothing.
use mathlib.Core.Path.{◌≡◌, sym, ap, ◌∙◌}
use mathlib.Core.Bool.{Bool, true, false}
use mathlib.Core.List.{List, ◌++◌}
use Prim.Native.Nat.{ℕ, zero, suc, ◌+◌, ◌*◌, ◌≤◌}
use native.Mathlib.Nat.{mul-le-mul}
use native.Mathlib.Omega.{arith}
use lib.Ieee.{Float, binary64, to_bits}
use Rattle.std.specs.Prelude.{Ok, Err}
use lib.ListN.{length, length-append}
use Rattle.answers.specs.declared.Refusal.{Refusal}
use Rattle.answers.specs.Paper.{Answer, Reply, paper, table, if_done}
use Rattle.answers.proofs.Stopped.{stopped-number, was-done}
use Rattle.answers.proofs.PaperLaws.{done-new, done-old}
use Rattle.densities.specs.Square.{InPlace}
use Rattle.density_entries.specs.Squares.{Square}
use Rattle.density_trace.specs.Trace.{trace_of, normalize_answer, normalized}
use Rattle.texts.specs.Text.{Puts}
use Rattle.texts.proofs.TextLaws.{puts-as}
use Rattle.page_lines.specs.PageLines.{bits_line, said_line, reply_line}
use Rattle.page_lines.proofs.PageLineLaws.{length-bits, length-said, length-reply}
use Rattle.page_cells.specs.PageCells.{cell_lines, Lined}
use Rattle.page_cells.proofs.PageCellLaws.{square-small, length-cells}
use Rattle.page_matrices.specs.Matrices.{cell_word, trace_word, kept_word, scaled_word, scaled_refused_word, summed_word, unscaled_text, kept_text, scaled_text, scaled_at, matrices_text, Drawn}

pub square-some : (dim : ℕ) → 1 ≤ dim → 1 ≤ dim * dim
square-some dim h = mul-le-mul {n₁ = 1} {m₁ = 1} {n₂ = dim} {m₂ = dim} h h

-- ---- how long the texts are

module _ (rho : List Float) (dim : ℕ) (some : 1 ≤ dim) (small : dim ≤ 32) where
  pub length-unscaled : length (unscaled_text rho dim) ≤ 48 * (dim * dim) + 23
  unfolding unscaled_text
  length-unscaled =
      omega (
        arith,
        length-append (cell_lines cell_word dim (dim * dim) rho) (bits_line trace_word (to_bits binary64 (trace_of rho dim))),
        length-cells cell_word dim rho (omega arith) some small (dim * dim) (omega arith),
        length-bits trace_word (to_bits binary64 (trace_of rho dim)),
      )

  pub length-scaled : length (scaled_text rho dim) ≤ 48 * (dim * dim) + 9
  unfolding scaled_text
  length-scaled = go (normalize_answer rho dim).0
    where
      go : (x : ℕ) → length (if_done x (cell_lines scaled_word dim (dim * dim) (normalized rho dim)) (reply_line scaled_refused_word (normalize_answer rho dim))) ≤ 48 * (dim * dim) + 9
      go zero = omega (arith, length-cells scaled_word dim (normalized rho dim) (omega arith) some small (dim * dim) (omega arith))
      go (suc x) = omega (arith, length-reply scaled_refused_word (normalize_answer rho dim), square-some dim some)

pub length-kept : (accepted : Bool) (bits : ℕ) → length (kept_text accepted bits) ≤ 22
unfolding kept_text
length-kept true bits = omega (arith, length-bits kept_word bits)
length-kept false bits = omega arith

pub length-matrices : (rho : List Float) (dim : ℕ) (accepted : Bool) (total : ℕ) (same : Bool) → 1 ≤ dim → dim ≤ 32
    → length (matrices_text rho dim accepted total same) ≤ 98400
unfolding matrices_text
length-matrices rho dim accepted total same some small =
    omega (
      arith,
      length-append (unscaled_text rho dim ++ kept_text accepted total ++ scaled_text rho dim) (said_line summed_word same),
      length-append (unscaled_text rho dim ++ kept_text accepted total) (scaled_text rho dim),
      length-append (unscaled_text rho dim) (kept_text accepted total),
      length-unscaled rho dim some small,
      length-kept accepted total,
      length-scaled rho dim some small,
      length-said summed_word same,
      square-small dim small,
    )

-- ---- what the functions ask

pub lined-square : (w : List ℕ) (dim : ℕ) (s : List Float) (at room : ℕ) → Lined w dim s at room → Square dim s
lined-square w dim s at room is = record { small = omega (arith, is.small); room = is.cells }

pub drawn-lined : (w : List ℕ) (dim : ℕ) (s : List Float) (at next room long : ℕ) → length w ≤ 8 → Drawn dim s at room → long ≡ room → next ≤ at + 49197 → Lined w dim s next long
drawn-lined w dim s at next room long short is e h = record {
  short = short;
  some = is.some;
  small = is.small;
  cells = is.cells;
  fits = omega (arith, is.fits, e, square-small dim is.small);
}

-- ---- the scaled matrix

module _ (rho : List Float) (dim : ℕ) (a : Answer) (end : List Float) (is : InPlace (normalize_answer rho dim) (normalized rho dim) rho a end) (at r : ℕ) (old new : List ℕ) where
  pub scaled-refused : (e : Refusal) → a ≡ Err e → Puts at (reply_line scaled_refused_word (table e)) old r new → Puts at (scaled_text rho dim) old r new
  unfolding scaled_text
  scaled-refused e h p =
      let said : table e ≡ normalize_answer rho dim = ap paper (sym h) ∙ is.answer in
      puts-as at r _ _ old new
      (ap (reply_line scaled_refused_word) said
      ∙ done-old (normalize_answer rho dim).0 (cell_lines scaled_word dim (dim * dim) (normalized rho dim)) (reply_line scaled_refused_word (normalize_answer rho dim))
      (λ z. stopped-number e (ap (λ (x : Reply). x.0) said ∙ z))) p

  pub scaled-done : a ≡ Ok tt → Puts at (cell_lines scaled_word dim (dim * dim) end) old r new → Puts at (scaled_text rho dim) old r new
  unfolding scaled_text
  scaled-done h p =
      let z : (normalize_answer rho dim).0 ≡ 0 = was-done a (normalize_answer rho dim) is.answer h in
      puts-as at r _ _ old new
      (ap (cell_lines scaled_word dim (dim * dim)) (is.matrix ∙ sym (done-new (normalize_answer rho dim).0 (normalized rho dim) rho z))
      ∙ done-new (normalize_answer rho dim).0 (cell_lines scaled_word dim (dim * dim) (normalized rho dim)) (reply_line scaled_refused_word (normalize_answer rho dim)) z) p

pub scaled-left : (rho : List Float) (dim : ℕ) (a : Answer) (end : List Float) → InPlace (normalize_answer rho dim) (normalized rho dim) rho a end → end ≡ scaled_at rho dim
unfolding scaled_at
scaled-left rho dim a end is = is.matrix
