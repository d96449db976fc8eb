-- Laws of the lines of an accepted cut, and of a text that is printed. Assumes nothing.
use mathlib.Core.Bool.{Bool, true, false, cond}
use mathlib.Core.Path.{◌≡◌, sym, ap, subst, ◌∙◌}
use mathlib.Core.Logic.{⊎_elim}
use native.Mathlib.Nat.{min-eq_left, min-eq_right}
use mathlib.Core.List.{List}
use Prim.Native.Nat.{ℕ, ◌-◌, ◌^◌, ◌≤◌, ◌<◌}
use native.Mathlib.Omega.{arith}
use lib.Ieee.{Float}
use lib.ListN.{length, take, drop}
use lib.Seq.{length-take-le, take_at}
use Rattle.answers.specs.Paper.{Reply}
use Rattle.whole_numbers.proofs.WholeLaws.{le-or-lt}
use Rattle.qubit_offsets.specs.Calls.{fronted}
use Rattle.io.specs.Counts.{IsPrefixLen}
use Rattle.texts.specs.Text.{Puts}
use Rattle.texts.proofs.TextLaws.{puts-as}
use Rattle.lines.specs.Lines.{refused_line, listing}
use Rattle.lines.proofs.LineLaws.{length-refused, length-listing}
use Rattle.qubits.specs.Spread.{other_qubits}
use Rattle.qubits.proofs.OtherLaws.{others-length}
use Rattle.cut_sides.specs.Sides.{Parted, side, named_rows, side_list}
use Rattle.cut_sides.proofs.SideLaws.{is-parted, named-yes, named-no}
use Rattle.entropy_totals.specs.declared.Totals.{Totals}
use Rattle.entropy_totals.specs.Totals.{totals_of}
use Rattle.certificates.specs.Accepted.{Printable, sided_text, accepted_text, Printed}

-- ---- an accepted cut

-- the smaller side's list is as long as the side
pub side-length : (l : List ℕ) (n : ℕ) → Parted l n → length (side_list l n) ≡ side l n
side-length l n p =
    ⊎_elim
    (λ (h : length l ≤ n - length l).
    let t = named-yes l n h in
    rw t (sym (min-eq_left h)))
    (λ (h : n - length l < length l).
    let t = named-no l n h in
    let g : n - length l ≤ length l = omega arith in
    rw t (others-length n l p.listed ∙ sym (min-eq_right g)))
    (le-or-lt (length l) (n - length l))

-- the two cases of that list
pub side-named : (l : List ℕ) (n : ℕ) → length l ≤ n - length l → l ≡ side_list l n
side-named l n h = let t = named-yes l n h in rw t

pub side-written : (l : List ℕ) (n : ℕ) (o end : List ℕ) → Parted l n → n - length l < length l → end ≡ fronted (other_qubits n l) o
    → take (n - length l) end ≡ side_list l n
side-written l n o end p h e =
    let t = named-no l n h in
    rw (e, t) (take_at (other_qubits n l) (drop (length (other_qubits n l)) o) (n - length l) (others-length n l p.listed))

pub side-short : (l : List ℕ) (n : ℕ) → Parted l n → length (side_list l n) ≤ n
side-short l n p = go (named_rows l n)
  where
    go : (t : Bool) → length (cond t l (other_qubits n l)) ≤ n
    go true = p.listed.short
    go false = omega (arith, others-length n l p.listed)

pub sided-is : (n : ℕ) (list : List ℕ) (values : List Float) (sweeps : ℕ) (quiet : Bool) (part : List ℕ) → Parted list n → part ≡ side_list list n
    → sided_text n (length list) part values sweeps quiet ≡ accepted_text n list values sweeps quiet
unfolding sided_text accepted_text
sided-is n list values sweeps quiet part p e =
    ap (λ (y : List ℕ). listing n (length list) (2 ^ length y) (2 ^ (n - length y)) y values (totals_of values).low (totals_of values).high (totals_of values).whole sweeps quiet) e
    ∙ ap (λ (m : ℕ). listing n (length list) (2 ^ m) (2 ^ (n - m)) (side_list list n) values (totals_of values).low (totals_of values).high (totals_of values).whole sweeps quiet) (side-length list n p)

-- what `put_listing` puts, of the numbers at hand
pub listing-is : (n k rows columns : ℕ) (part : List ℕ) (values : List Float) (sweeps : ℕ) (quiet : Bool) (t : Totals)
    → rows ≡ 2 ^ length part → columns ≡ 2 ^ (n - length part) → t ≡ totals_of values
    → listing n k rows columns part values t.low t.high t.whole sweeps quiet ≡ sided_text n k part values sweeps quiet
unfolding sided_text
listing-is n k rows columns part values sweeps quiet t e f g = rw (e, f, g)

pub accepted-short : (n : ℕ) (list : List ℕ) (values : List Float) (sweeps : ℕ) (quiet : Bool) → Printable list n values
    → length (accepted_text n list values sweeps quiet) ≤ 2048
unfolding accepted_text
accepted-short n list values sweeps quiet a =
    omega (
      arith,
      length-listing n (length list) (2 ^ side list n) (2 ^ (n - side list n)) (side_list list n) values (totals_of values).low (totals_of values).high (totals_of values).whole sweeps quiet,
      side-short list n (is-parted list n 10 a.taken),
      a.small,
      a.few,
    )

-- ---- a text that is printed

pub printed-as : (t u old : List ℕ) (r : ℕ) (new : List ℕ) → t ≡ u → Printed t old r new → Printed u old r new
printed-as t u old r new e p = record { puts = puts-as 0 r t u old new e p.puts; short = subst (λ (s : List ℕ). length s ≤ 2048) e p.short }

pub printed-refusal : (a : Reply) (old : List ℕ) (r : ℕ) (new : List ℕ) → Puts 0 (refused_line a) old r new → Printed (refused_line a) old r new
printed-refusal a old r new p = record { puts = p; short = omega (arith, length-refused a) }

pub printed-counts : (t old : List ℕ) (r : ℕ) (new : List ℕ) → 2048 ≤ length new → Printed t old r new → IsPrefixLen r new
printed-counts t old r new l p =
    let h : r ≤ length new = omega (arith, p.puts.next, p.short) in
    (h, sym (length-take-le r new h))
