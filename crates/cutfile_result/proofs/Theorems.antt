-- What a reader may want to know of the result of a file. Assumes nothing.
use mathlib.Core.Path.{◌≡◌, sym, ap, ◌∙◌, refl}
use mathlib.Core.List.{List, [], ◌∷◌}
use Prim.Native.Nat.{ℕ, ◌≤◌, ◌<◌, zero, suc, ◌+◌, ◌*◌, ◌/◌, ◌^◌, min}
use lib.Ieee.{Float}
use Rattle.answers.specs.Paper.{Reply, given, done, refuse, after, and_then}
use Rattle.answers.proofs.Theorems.{result-one}
use Rattle.cut_values.specs.declared.CutCounted.{CutCounted}
use Rattle.cutfile_result.specs.declared.CutResult.{CutResult}
use Rattle.cutfile_result.specs.Result.{list_of, state_of, cut_reply, library_reply, file_reply, file_list, file_values, Result}
use native.Mathlib.Omega.{arith}
use Rattle.answers.proofs.PaperLaws.{stays, and_then-done, refuse-done}
use lib.ListN.{length, take}
use Rattle.cutfile.specs.Layout.{LongEnough, component_at, mark, amplitude_offset, file_length, gap, size_answer, file_offsets_answer, length_answer, fields_answer, header_answer}
use Rattle.cutfile.specs.Bytes.{word32, begins, all_zero}
use Rattle.cutfile.proofs.LayoutLaws.{accepted}
use Rattle.cutfile.proofs.Longer.{longest, longer-same, longer-refused}
use mathlib.Core.Bool.{Bool, true, false, not}
use borrow.Author.Tests.{le-ltb, eq-eqb}
use lib.Dec.{leb, ltb, eqb}
use lib.Pow.{pow_mono}
use Rattle.numbers.specs.Numbers.{allowed}
use Rattle.complex.specs.Cells.{components}
use Rattle.qubits.specs.Lists.{stands, places_from, places, qubit_set, subsystem}
use Rattle.cut_sides.specs.Sides.{cut_sizes, cut_refusal}
use Rattle.values.specs.Lists.{all_finite}
use Rattle.values.specs.Sort.{sorted_down}
use Rattle.finish.specs.Finish.{kept_values, finish_sorted, sorted_reply, finish_reply}
use Rattle.tables.proofs.TablesLaws.{length-table}
use Rattle.cut_values.specs.Schmidt.{cut_rows, singular_values, cut_values_scratch, cut_values_lengths, cut_values_rest, cut_values_tests, values_reply, cut_values_answer, no_cut}
use Rattle.cut_values.proofs.Few.{few-left, few-singular, some-kept}
use Rattle.cutfile_result.proofs.Few.{few-rows}

same-cut : {x y : CutCounted} → x.count ≡ y.count → x.sweeps ≡ y.sweeps → x.exact ≡ y.exact → x ≡ y
same-cut e f g = λ i. record { count = e i; sweeps = f i; exact = g i }

-- Only one outcome meets the contract of `cut_result`: its n, k and cut, and every cell of the list and the values.
pub cut-result-one : (file list : List ℕ) (values : List Float) (r s : CutResult) (list' list'' : List ℕ) (values' values'' : List Float)
    → Result file list values r list' values' → Result file list values s list'' values'' → (r ≡ s) × (list' ≡ list'') × (values' ≡ values'')
cut-result-one file list values r s list' list'' values' values'' x y =
    let counts : given no_cut r.cut ≡ given no_cut s.cut = same-cut (x.count ∙ sym y.count) (x.sweeps-are ∙ sym y.sweeps-are) (x.exact-is ∙ sym y.exact-is) in
    let n : r.n ≡ s.n = x.n-is ∙ sym y.n-is in
    let k : r.k ≡ s.k = x.k-is ∙ sym y.k-is in
    let cut : r.cut ≡ s.cut = result-one r.cut s.cut (x.answer ∙ sym y.answer) (λ u v e f. ap (given no_cut) (sym e) ∙ counts ∙ ap (given no_cut) f) in
    (λ i. record { n = n i; k = k i; cut = cut i }, x.list-is ∙ sym y.list-is, x.values-are ∙ sym y.values-are)

-- a number to 10, and other than 6
abbrev Other : Reply → Type 0
Other a = (a.0 ≤ 10) × (a.0 ≡ 6 → ⊥)

refuse-other : (t : Bool) (k p : ℕ) (b : Reply) → (k ≤ 10) × (k ≡ 6 → ⊥) → Other b → Other (refuse t (k, p) b)
refuse-other true k p b h i = h
refuse-other false k p b h i = i

after-other : (k : ℕ) (x b : Reply) → Other x → Other b → Other (after k x b)
after-other zero x b h i = i
after-other (suc k) x b h i = h

done-other : Other done
done-other = (omega arith, λ e. omega arith)

components-other : (i : ℕ) (l : List Float) → Other (components i l)
unfolding components
components-other i [] = done-other
components-other i (x ∷ l) = refuse-other (not (allowed x)) 7 (i / 2) (components (suc i) l) (omega arith, λ e. omega arith) (components-other (suc i) l)

places-other : (n : ℕ) (l : List ℕ) (i : ℕ) (m : List ℕ) → Other (places_from n l i m)
unfolding places_from
places-other n l i [] = done-other
places-other n l i (q ∷ m) =
    refuse-other (leb n q) 2 i _ (omega arith, λ e. omega arith) (refuse-other (stands q (take i l)) 3 i _ (omega arith, λ e. omega arith) (places-other n l (suc i) m))

register-other : (n : ℕ) (b : Reply) → Other b → Other (refuse (ltb n 1) (1, 0) (refuse (ltb 12 n) (1, 0) b))
register-other n b h = refuse-other (ltb n 1) 1 0 _ (omega arith, λ e. omega arith) (refuse-other (ltb 12 n) 1 0 b (omega arith, λ e. omega arith) h)

cut-other : (l : List ℕ) (n cap : ℕ) → Other (cut_refusal l n cap)
cut-other l n cap =
    after-other (cut_sizes n cap).0 (cut_sizes n cap) (subsystem n l)
    (register-other n _ (refuse-other (ltb (min cap 13) (n + 1)) 1 0 done (omega arith, λ e. omega arith) done-other))
    (after-other (qubit_set n l).0 (qubit_set n l) (refuse (eqb (length l) n) (5, 0) done)
    (register-other n (places n l)
    (after-other (places_from n l 0 l).0 (places_from n l 0 l) (refuse (eqb (length l) 0) (4, 0) done) (places-other n l 0 l)
    (refuse-other (eqb (length l) 0) 4 0 done (omega arith, λ e. omega arith) done-other)))
    (refuse-other (eqb (length l) n) 5 0 done (omega arith, λ e. omega arith) done-other))

values_other : (values : List Float) → Other (values_reply values)
unfolding values_reply sorted_reply
values_other values =
    let s = sorted_down values in
    refuse-other (not (all_finite values)) 9 0 (finish_reply values) (omega arith, λ e. omega arith)
    (refuse-other (eqb (length (kept_values s)) 0) 8 0 (refuse (not (all_finite (finish_sorted s))) (9, 0) done) (omega arith, λ e. omega arith)
    (refuse-other (not (all_finite (finish_sorted s))) 9 0 done (omega arith, λ e. omega arith) done-other))

lengths-fit : (n rows state : ℕ) → state ≡ 2 * 2 ^ n → rows ≤ 16 → 2 ^ n ≤ 512 → cut_values_lengths n rows state 16 4128 ≡ done
unfolding cut_values_lengths
lengths-fit n rows state e h c = rw (eq-eqb state (2 * 2 ^ n) e, le-ltb 16 rows h, le-ltb 4128 (cut_values_scratch n rows) (omega arith))

library-other : (state : List Float) (n : ℕ) (list : List ℕ) → n ≤ 9 → length state ≡ 2 * 2 ^ n → Other (cut_reply state n list)
unfolding cut_reply cut_values_answer cut_values_tests cut_values_rest
library-other state n list h l =
    let cells : 2 ^ n ≤ 2 ^ 9 = pow_mono h in
    let rows = few-rows n list h in
    let fits : cut_values_lengths n (cut_rows n list) (length state) 16 4128 ≡ done = lengths-fit n (cut_rows n list) (length state) l rows (omega arith) in
    let t = cut_values_lengths n (cut_rows n list) (length state) 16 4128 in
    let zero : t.0 ≡ 0 = ap (λ (x : Reply). x.0) fits in
    let none : Other t = (omega (arith, zero), λ e. omega (arith, zero)) in
    after-other (cut_values_tests state n list 10 16 4128).0 (cut_values_tests state n list 10 16 4128) (values_reply (singular_values state n list))
    (after-other (cut_refusal list n 10).0 (cut_refusal list n 10) (cut_values_rest state n (cut_rows n list) 16 4128) (cut-other list n 10)
    (after-other t.0 t (components 0 state) none (components-other 0 state)))
    (values_other (singular_values state n list))

-- A cut of a state that has its 2·2^n numbers is never refused by 6.
pub never-length : (state : List Float) (n : ℕ) (list : List ℕ) → n ≤ 9 → length state ≡ 2 * 2 ^ n → (cut_reply state n list).0 ≡ 6 → ⊥
never-length state n list h l = (library-other state n list h l).1

-- No file is refused by 6.
pub file-never-length : (file : List ℕ) (n k : ℕ) → LongEnough file n k → (cut_reply (state_of file n k) n (list_of file k)).0 ≡ 6 → ⊥
file-never-length file n k h = never-length (state_of file n k) n (list_of file k) h.n-small (length-table (2 * 2 ^ n) (component_at file k))

-- three tests of number 10
tens-other : (a b c : Bool) → Other (refuse a (10, 0) (refuse b (10, 0) (refuse c (10, 0) done)))
tens-other a b c =
    let ten : Other (10, 0) = (omega arith, λ e. omega arith) in
    refuse-other a 10 0 _ ten (refuse-other b 10 0 _ ten (refuse-other c 10 0 _ ten done-other))

fields-other : (n k : ℕ) (file : List ℕ) → Other (fields_answer n k file)
unfolding fields_answer size_answer file_offsets_answer length_answer
fields-other n k file =
    let first : Other (1, 0) = (omega arith, λ e. omega arith) in
    after-other (size_answer n).0 (size_answer n) (and_then (file_offsets_answer k file) (length_answer n k file))
    (refuse-other (ltb n 1) 1 0 _ first (refuse-other (ltb 9 n) 1 0 done first done-other))
    (after-other (file_offsets_answer k file).0 (file_offsets_answer k file) (length_answer n k file)
    (tens-other (ltb 64 k) (not (eqb (word32 file 12) 24)) (not (eqb (word32 file 16) (amplitude_offset k))))
    (tens-other (not (eqb (word32 file 20) (file_length n k))) (not (eqb (length file) (file_length n k))) (not (all_zero (gap k file)))))

header-other : (file : List ℕ) → Other (header_answer file)
unfolding header_answer
header-other file =
    let ten : Other (10, 0) = (omega arith, λ e. omega arith) in
    let F = fields_answer (word32 file 4) (word32 file 8) file in
    refuse-other (ltb (length file) 24) 10 0 (refuse (not (begins mark file)) (10, 0) F) ten
    (refuse-other (not (begins mark file)) 10 0 F ten (fields-other (word32 file 4) (word32 file 8) file))

-- A file's answer is one of 0 to 10.
pub file-number : (file : List ℕ) → (file_reply file).0 ≤ 10
unfolding file_reply
file-number file = by (header_answer file).0 refl
  where
    n : ℕ
    n = word32 file 4

    k : ℕ
    k = word32 file 8

    by : (x : ℕ) → (header_answer file).0 ≡ x → (after x (header_answer file) (library_reply file n k)).0 ≤ 10
    by zero e = (library-other (state_of file n k) n (list_of file k) (accepted file e).0.n-small (length-table (2 * 2 ^ n) (component_at file k))).0
    by (suc x) e = (header-other file).0

-- An accepted file keeps 1 to 16 values.
pub file-rank : (file : List ℕ) → (file_reply file).0 ≡ 0 → (1 ≤ length (file_values file)) × (length (file_values file) ≤ 16)
unfolding file_reply cut_reply cut_values_answer values_reply
file-rank file e =
    let n = word32 file 4 in
    let k = word32 file 8 in
    let s = state_of file n k in
    let l = file_list file in
    let split = and_then-done (header_answer file) (library_reply file n k) e in
    let kept = (and_then-done (cut_values_tests s n l 10 16 4128) (values_reply (singular_values s n l)) split.1).1 in (
      some-kept (singular_values s n l) (refuse-done (not (all_finite (singular_values s n l))) 8 0 (finish_reply (singular_values s n l)) kept).1,
      omega (arith, few-left (singular_values s n l), few-singular s n l, few-rows n l (accepted file split.0).0.n-small),
    )

-- What stands past the 8,480 bytes that a program reads changes nothing, and such a file is refused.
pub longer-reply : (m : ℕ) (file : List ℕ) → longest < m → m ≤ length file → (file_reply (take m file) ≡ file_reply file) × ((file_reply file).0 ≡ 0 → ⊥)
unfolding file_reply
longer-reply m file h l =
    let same = longer-same m file h l in
    let none : (header_answer file).0 ≡ 0 → ⊥ = longer-refused file (omega arith) in
    let a : header_answer (take m file) ≡ file_reply (take m file) = stays (header_answer (take m file)) _ (λ e. none (sym (ap (λ (r : Reply). r.0) same) ∙ e)) in
    let b : header_answer file ≡ file_reply file = stays (header_answer file) _ none in
    (sym a ∙ same ∙ b, λ e. none (ap (λ (r : Reply). r.0) b ∙ e))
