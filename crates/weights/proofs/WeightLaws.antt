-- The laws that the loops and the finish of weights cite. Assumes nothing.
use mathlib.Core.Path.{◌≡◌, sym, ap, ◌∙◌}
use mathlib.Core.Bool.{Bool, true, false, cond}
use mathlib.Core.List.{List, [], ◌∷◌, ◌++◌, append_assoc, append-nil}
use Prim.Native.Nat.{ℕ, zero, suc, ◌+◌, ◌-◌, ◌≤◌, ◌<◌}
use native.Mathlib.Numerals.{add-one}
use native.Mathlib.Nat.{add-zero, add-suc}
use native.Mathlib.Omega.{arith}
use lib.Ieee.{Float, nan, binary64, mul, div, lt}
use lib.ListN.{length, get_or, take, drop, set, drop_of_length-le}
use lib.Seq.{drop-cons, take-suc-set, drop_at, length-take-le}
use Rattle.answers.specs.Paper.{if_done}
use Rattle.numbers.specs.Root.{sqrt_of}
use Rattle.complex.specs.Zeros.{zero_float, zeros, zeroed}
use Rattle.complex.proofs.ZerosLaws.{length-zeros}
use Rattle.values.proofs.ListLaws.{kept-le, length-scaled}
use Rattle.values.proofs.SortLaws.{length-sort}
use Rattle.std.specs.Prelude.{Result}
use Rattle.answers.specs.declared.Refusal.{Refusal}
use Rattle.numbers.specs.Numbers.{one_float, larger_of}
use Rattle.values.specs.Lists.{kept_above, squares_from, minus_zero}
use Rattle.values.specs.Sort.{sorted_down}
use Rattle.finish.specs.Finish.{value_floor, finish_of, finish_reply, padded, floor_of, finish_sorted, normalised, kept_values}
use Rattle.finish.specs.Outcome.{FinishedOutcome}
use Rattle.weights.specs.Weights.{largest_from, weight_floor, roots_above, roots_of}
use Rattle.weights.specs.WeightOutcome.{WeightOutcome}

pub largest-end : (m : Float) (l : List Float) (i : ℕ) → length l ≤ i → largest_from m (drop i l) ≡ m
unfolding largest_from
largest-end m l i h = rw (drop_of_length-le l h)

pub largest-more : (m : Float) (l : List Float) (i : ℕ) {x : Float} → i < length l → x ≡ larger_of m (get_or l i nan)
    → largest_from m (drop i l) ≡ largest_from x (drop (i + 1) l)
unfolding largest_from
largest-more m l i h e = rw (add-one, drop-cons l i nan, e)

-- ---- the roots

pub roots-end : (f : Float) (l : List Float) (i : ℕ) → length l ≤ i → roots_above f (drop i l) ≡ []
unfolding roots_above
roots-end f l i h = rw (drop_of_length-le l h)

roots-here : (f : Float) (l : List Float) (i : ℕ) → i < length l → lt f (get_or l i nan) ≡ true
    → roots_above f (drop i l) ≡ sqrt_of (get_or l i nan) ∷ roots_above f (drop (i + 1) l)
unfolding roots_above
roots-here f l i h t = rw (add-one, drop-cons l i nan, t)

roots-past : (f : Float) (l : List Float) (i : ℕ) → i < length l → lt f (get_or l i nan) ≡ false
    → roots_above f (drop i l) ≡ roots_above f (drop (i + 1) l)
unfolding roots_above
roots-past f l i h t = rw (add-one, drop-cons l i nan, t)

-- a step of the loop: what stands in the first n places, and what is left, give the same roots
pub roots-put : (f : Float) (l out : List Float) (i n : ℕ) {x : Float} → i < length l → n < length out → lt f (get_or l i nan) ≡ true
    → x ≡ sqrt_of (get_or l i nan) → take n out ++ roots_above f (drop i l) ≡ roots_above f l
    → take (n + 1) (set out n x) ++ roots_above f (drop (i + 1) l) ≡ roots_above f l
roots-put f l out i n {x} h g t e k =
    rw (add-one n, take-suc-set out n x, append_assoc, e) (rw (roots-here f l i h t) at k)

pub roots-pass : (f : Float) (l out : List Float) (i n : ℕ) → i < length l → lt f (get_or l i nan) ≡ false
    → take n out ++ roots_above f (drop i l) ≡ roots_above f l → take n out ++ roots_above f (drop (i + 1) l) ≡ roots_above f l
roots-pass f l out i n h t k = rw (roots-past f l i h t) at k

pub roots-all : (f : Float) (l out : List Float) (i n : ℕ) → length l ≤ i → n ≤ length out
    → take n out ++ roots_above f (drop i l) ≡ roots_above f l → (n ≡ length (roots_above f l)) × (take n out ≡ roots_above f l)
roots-all f l out i n h g k =
    let e : take n out ≡ roots_above f l = rw (roots-end f l i h, append-nil) at k in
    (sym (length-take-le n out g) ∙ ap length e, e)

pub roots-le : (f : Float) (l : List Float) → length (roots_above f l) ≤ length l
unfolding roots_above
roots-le f [] = omega arith
roots-le f (w ∷ l) = pick (lt f w) (roots-le f l)
  where
    pick : (t : Bool) → length (roots_above f l) ≤ length l → length (cond t (sqrt_of w ∷ roots_above f l) (roots_above f l)) ≤ suc (length l)
    pick true h = omega arith
    pick false h = omega arith

-- there are at most as many roots as weights
pub roots_few : (f : Float) (n : ℕ) (out : List Float) {k : ℕ} → n ≤ length out → k ≡ length (roots_above f (take n out)) → k ≤ n
roots_few f n out h e = omega (arith, e, roots-le f (take n out), length-take-le n out h)

-- ---- zeros past the roots that are needed too

zeros-add : (a b : ℕ) → zeros a ++ zeros b ≡ zeros (a + b)
unfolding zeros
zeros-add a zero = rw (add-zero, append-nil)
zeros-add a (suc b) = rw (add-suc, ← zeros-add a b) (sym (append_assoc (zeros a) (zeros b) (zero_float ∷ [])))

drop-zeroed : (k n : ℕ) (old : List Float) → k ≤ n → drop k (zeroed n old) ≡ zeros (n - k) ++ drop n old
unfolding zeroed
drop-zeroed k n old h =
    let e : k + (n - k) ≡ n = omega arith in
    let z : zeros n ≡ zeros k ++ zeros (n - k) = sym (zeros-add k (n - k) ∙ ap zeros e) in
    rw (z, append_assoc) (drop_at (zeros k) (zeros (n - k) ++ drop n old) k (length-zeros k))

padded-zeroed : (k n : ℕ) (l old : List Float) → length l ≤ k → k ≤ n → padded k l (zeroed n old) ≡ padded n l old
unfolding padded
padded-zeroed k n l old g h =
    let e : k - length l + (n - k) ≡ n - length l = omega arith in
    rw (drop-zeroed k n old h, ← append_assoc (l ++ zeros (k - length l)) (zeros (n - k)) (drop n old), append_assoc l (zeros (k - length l)) (zeros (n - k)), zeros-add, e)

zeroed-zeroed : (k n : ℕ) (old : List Float) → k ≤ n → zeroed k (zeroed n old) ≡ zeroed n old
unfolding zeroed
zeroed-zeroed k n old h =
    let e : k + (n - k) ≡ n = omega arith in
    let z : zeros k ++ zeros (n - k) ≡ zeros n = zeros-add k (n - k) ∙ ap zeros e in
    ap (λ (l : List Float). zeros k ++ l) (drop-zeroed k n old h) ∙ sym (append_assoc (zeros k) (zeros (n - k)) (drop n old)) ∙ ap (λ (l : List Float). l ++ drop n old) z

-- ---- the finish

finish-le : (values : List Float) → length (finish_of values) ≤ length values
unfolding finish_sorted normalised kept_values
finish-le values =
    let s = sorted_down values in
    let k = kept_above (floor_of s) s in
    omega (arith, length-scaled (div binary64 one_float (sqrt_of (squares_from minus_zero k))) k, kept-le (floor_of s) s, length-sort values (length values))

longer : (x k n : ℕ) (l old : List Float) → length l ≤ k → k ≤ n
    → if_done x (padded k l (zeroed n old)) (zeroed k (zeroed n old)) ≡ if_done x (padded n l old) (zeroed n old)
longer x k n l old g h = rw (padded-zeroed k n l old g h, zeroed-zeroed k n old h)

roots-is : (l : List Float) {m floor : Float} {values : List Float} → m ≡ largest_from zero_float l → floor ≡ mul binary64 m value_floor
    → values ≡ roots_above floor l → values ≡ roots_of l
unfolding weight_floor roots_of
roots-is l e f g = rw (← e, ← f) g

roots-of-le : (l : List Float) → length (roots_of l) ≤ length l
unfolding roots_of
roots-of-le l = roots-le (weight_floor l) l

pub weights-made : (n : ℕ) (old : List Float) {m floor : Float} {values mid : List Float} {r : Result ℕ Refusal} {end : List Float} → n ≤ length old
    → m ≡ largest_from zero_float (take n old) → floor ≡ mul binary64 m value_floor → values ≡ roots_above floor (take n old)
    → mid ≡ zeroed n old → FinishedOutcome values mid r end → WeightOutcome n old r end
weights-made n old {m} {floor} {values} {mid} {r} {end} h e f g i o =
    let s = roots_of (take n old) in
    let v : values ≡ s = roots-is (take n old) e f g in
    let p : FinishedOutcome s (zeroed n old) r end = rw (v, i) at o in
    let k : length s ≤ n = omega (arith, roots-of-le (take n old), length-take-le n old h) in
    record {
      answer = p.answer;
      count = p.count;
      values = p.out ∙ longer (finish_reply s).0 (length s) n (finish_of s) old (finish-le s) k;
    }
