-- Laws of the lines: how long each is, a step of each loop. Assumes nothing.
use mathlib.Core.Path.{◌≡◌, ap}
use mathlib.Core.Bool.{Bool, true, false}
use mathlib.Core.List.{List, [], ◌∷◌, ◌++◌}
use Prim.Native.Nat.{ℕ, zero, suc, ◌+◌, ◌*◌, ◌≤◌, ◌<◌}
use native.Mathlib.Numerals.{add-one}
use native.Mathlib.Omega.{arith}
use lib.ListN.{length, get_or, length-append}
use lib.Ieee.{Float, nan, binary64, to_bits}
use Rattle.answers.specs.Paper.{Reply}
use Rattle.texts.specs.Text.{Puts, hex, item_text, pair_line}
use Rattle.texts.proofs.TextLaws.{puts_then, puts-as, puts_none, length-hex, length-item, length-pair}
use Rattle.lines.specs.Lines.{cut_word, side_word, value_word, entropy_word, end_word, refused_word, blank, refused_line, cut_line, value_line, items, side_line, value_lines, quiet_text, end_line, entropy_line, last_lines, listing}

pub length-items : (m : ℕ) (l : List ℕ) → length (items m l) ≤ 21 * m
unfolding items
length-items zero l = omega arith
length-items (suc m) l = omega (arith, length-append (items m l) (item_text blank (get_or l m 0)), length-items m l, length-item blank (get_or l m 0))

pub items-none : (at : ℕ) (l d : List ℕ) → Puts at (items 0 l) d at d
unfolding items
items-none at l d = puts_none at d

-- a turn: r is past the items that were put, and the next one is put there
pub items-step : (at m r s : ℕ) (l old mid new : List ℕ) → at + 21 * length l ≤ length old → m < length l → Puts at (items m l) old r mid → Puts r (item_text blank (get_or l m 0)) mid s new
    → Puts at (items (m + 1) l) old s new
unfolding items
items-step at m r s l old mid new room h p q = rw add-one (puts_then at r s (items m l) _ old mid new (omega (arith, length-items m l)) p q)

pub length-value : (m b : ℕ) → length (value_line m b) ≤ 44
unfolding value_line
length-value m b =
    let w = value_word in
    omega (
      arith,
      length-append (item_text w m ++ 32 ∷ [] ++ hex 16 b) (10 ∷ []),
      length-append (item_text w m ++ 32 ∷ []) (hex 16 b),
      length-append (item_text w m) blank,
      length-item w m,
      length-hex 16 b,
    )

pub length-values : (m : ℕ) (l : List Float) → length (value_lines m l) ≤ 64 * m
unfolding value_lines
length-values zero l = omega arith
length-values (suc m) l = omega (arith, length-append (value_lines m l) (value_line m (to_bits binary64 (get_or l m nan))), length-values m l, length-value m (to_bits binary64 (get_or l m nan)))

pub values-none : (at : ℕ) (l : List Float) (d : List ℕ) → Puts at (value_lines 0 l) d at d
unfolding value_lines
values-none at l d = puts_none at d

pub values-step : (at m r s b : ℕ) (l : List Float) (old mid new : List ℕ) → at + 64 * m ≤ length old → b ≡ to_bits binary64 (get_or l m nan) → Puts at (value_lines m l) old r mid → Puts r (value_line m b) mid s new
    → Puts at (value_lines (m + 1) l) old s new
unfolding value_lines
values-step at m r s b l old mid new room e p q =
    rw add-one (puts_then at r s (value_lines m l) _ old mid new (omega (arith, length-values m l)) p (puts-as r s _ _ mid new (ap (value_line m) e) q))

pub length_cut : (n k rows cols : ℕ) → length (cut_line n k rows cols) ≤ 88
unfolding cut_line
length_cut n k rows cols =
    let w = cut_word in
    omega (
      arith,
      length-append (item_text w n ++ item_text blank k) (pair_line blank rows cols),
      length-append (item_text w n) (item_text blank k),
      length-item w n,
      length-item blank k,
      length-pair blank rows cols,
    )

pub length-side : (l : List ℕ) → length (side_line l) ≤ 5 + 21 * length l
unfolding side_line
length-side l =
    let w = side_word in
    omega (arith, length-append (w ++ items (length l) l) (10 ∷ []), length-append w (items (length l) l), length-items (length l) l)

pub length-quiet : (quiet : Bool) → length (quiet_text quiet) ≤ 5
unfolding quiet_text
length-quiet true = omega arith
length-quiet false = omega arith

pub length-end : (count sweeps : ℕ) (quiet : Bool) → length (end_line count sweeps quiet) ≤ 50
unfolding end_line
length-end count sweeps quiet =
    omega (
      arith,
      length-append (item_text end_word count ++ item_text blank sweeps) (quiet_text quiet),
      length-append (item_text end_word count) (item_text blank sweeps),
      length-item end_word count,
      length-item blank sweeps,
      length-quiet quiet,
    )

pub length-entropy : (low high whole : ℕ) → length (entropy_line low high whole) ≤ 71
unfolding entropy_line
length-entropy low high whole =
    omega (arith, length-append (item_text entropy_word low) (pair_line blank high whole), length-item entropy_word low, length-pair blank high whole)

pub length_last : (low high whole count sweeps : ℕ) (quiet : Bool) → length (last_lines low high whole count sweeps quiet) ≤ 121
unfolding last_lines
length_last low high whole count sweeps quiet =
    omega (arith, length-append (entropy_line low high whole) (end_line count sweeps quiet), length-entropy low high whole, length-end count sweeps quiet)

pub length-listing : (n k rows cols : ℕ) (side : List ℕ) (values : List Float) (low high whole sweeps : ℕ) (quiet : Bool)
    → length (listing n k rows cols side values low high whole sweeps quiet) ≤ 214 + 21 * length side + 64 * length values
unfolding listing
length-listing n k rows cols side values low high whole sweeps quiet =
    let u = cut_line n k rows cols in
    let v = side_line side in
    let w = value_lines (length values) values in
    omega (
      arith,
      length-append (u ++ v ++ w) (last_lines low high whole (length values) sweeps quiet),
      length-append (u ++ v) w,
      length-append u v,
      length_cut n k rows cols,
      length-side side,
      length-values (length values) values,
      length_last low high whole (length values) sweeps quiet,
    )

pub length-refused : (r : Reply) → length (refused_line r) ≤ 50
unfolding refused_line
length-refused r = length-pair refused_word r.0 r.1
