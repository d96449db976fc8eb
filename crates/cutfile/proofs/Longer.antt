-- A file longer than any valid one need not be read whole: a front of it that is itself too long has the same answer,
-- which is not 0. So a reader with room for more than the longest valid file loses nothing. Assumes nothing.
use mathlib.Core.Path.{◌≡◌, refl, ap, ap₂, sym, ◌∙◌}
use mathlib.Core.Bool.{Bool, true, false, not}
use mathlib.Core.List.{List}
use Prim.Native.Nat.{ℕ, ◌+◌, ◌≤◌, ◌<◌}
use native.Mathlib.Omega.{arith}
use borrow.Author.Tests.{le-ltb, ltb-false, ne_eqb}
use Rattle.std.specs.Cmp.Lexicographic.{pointwise}
use lib.Dec.{eqb, ltb}
use lib.ListN.{length, take}
use lib.Seq.{get_or-take, length-take-le, take-take}
use Rattle.answers.specs.Paper.{Reply, refuse, and_then}
use Rattle.cutfile.specs.Bytes.{word32, begins}
use Rattle.cutfile.specs.Layout.{mark, amplitude_offset, file_length, size_answer, file_offsets_answer, length_answer, fields_answer, header_answer}
use Rattle.cutfile.proofs.LayoutLaws.{small_power}

-- the longest valid file: n = 9, k = 64
abbrev pub longest : ℕ
longest = 8472

-- ---- past the mark and n, a file that is too long is answered 10

length-ten : (n k : ℕ) (file : List ℕ) → n ≤ 9 → k ≤ 64 → longest < length file → length_answer n k file ≡ (10, 0)
unfolding length_answer
length-ten n k file h l long = rw (ne_eqb (length file) (file_length n k) (λ e. omega (arith, small_power n h))) (go (not (eqb (word32 file 20) (file_length n k))))
  where
    go : (a : Bool) → refuse a (10, 0) (10, 0) ≡ (10, 0)
    go true = refl
    go false = refl

layout-ten : (n k : ℕ) (file : List ℕ) → n ≤ 9 → longest < length file → and_then (file_offsets_answer k file) (length_answer n k file) ≡ (10, 0)
unfolding file_offsets_answer
layout-ten n k file h long = go (ltb 64 k) (not (eqb (word32 file 12) 24)) (not (eqb (word32 file 16) (amplitude_offset k))) refl
  where
    go : (a b c : Bool) → ltb 64 k ≡ a → and_then (refuse a (10, 0) (refuse b (10, 0) (refuse c (10, 0) (0, 0)))) (length_answer n k file) ≡ (10, 0)
    go true b c e = refl
    go false true c e = refl
    go false false true e = refl
    go false false false e = length-ten n k file h (ltb-false 64 k e) long

fields-ten : (n k : ℕ) (file : List ℕ) → longest < length file → fields_answer n k file ≡ and_then (size_answer n) (10, 0)
unfolding fields_answer size_answer
fields-ten n k file long = go (ltb n 1) (ltb 9 n) refl
  where
    go : (a b : Bool) → ltb 9 n ≡ b → and_then (refuse a (1, 0) (refuse b (1, 0) (0, 0))) (and_then (file_offsets_answer k file) (length_answer n k file)) ≡ and_then (refuse a (1, 0) (refuse b (1, 0) (0, 0))) (10, 0)
    go true b e = refl
    go false true e = refl
    go false false e = layout-ten n k file (ltb-false 9 n e) long

-- ---- what is read of a front is what is read of the file

word-take : (m at : ℕ) (file : List ℕ) → at + 4 ≤ m → word32 (take m file) at ≡ word32 file at
unfolding word32
word-take m at file h = rw (get_or-take m file at 0 (omega arith), get_or-take m file (at + 1) 0 (omega arith), get_or-take m file (at + 2) 0 (omega arith), get_or-take m file (at + 3) 0 (omega arith))

begins-take : (m : ℕ) (t file : List ℕ) → length t ≤ m → begins t (take m file) ≡ begins t file
begins-take m t file h = ap (pointwise eqb t) (take-take (length t) m file h)

-- the two last steps of an answer to a file that is too long
long-answer : (file : List ℕ) → longest < length file → header_answer file ≡ refuse (not (begins mark file)) (10, 0) (and_then (size_answer (word32 file 4)) (10, 0))
unfolding header_answer
long-answer file long = rw (le-ltb (length file) 24 (omega arith), fields-ten (word32 file 4) (word32 file 8) file long)

pub longer-same : (m : ℕ) (file : List ℕ) → longest < m → m ≤ length file → header_answer (take m file) ≡ header_answer file
longer-same m file h l =
    long-answer (take m file) (omega (arith, length-take-le m file l))
    ∙ ap₂ (λ (t : Bool) (n : ℕ). refuse (not t) (10, 0) (and_then (size_answer n) (10, 0))) (begins-take m mark file (omega arith)) (word-take m 4 file (omega arith))
    ∙ sym (long-answer file (omega arith))

pub longer-refused : (file : List ℕ) → longest < length file → (header_answer file).0 ≡ 0 → ⊥
unfolding size_answer
longer-refused file long e =
    go (not (begins mark file)) (ltb (word32 file 4) 1) (ltb 9 (word32 file 4)) (ap (λ (r : Reply). r.0) (sym (long-answer file long)) ∙ e)
  where
    go : (t a b : Bool) → (refuse t (10, 0) (and_then (refuse a (1, 0) (refuse b (1, 0) (0, 0))) (10, 0))).0 ≡ 0 → ⊥
    go true a b e = omega arith
    go false true b e = omega arith
    go false false true e = omega arith
    go false false false e = omega arith
