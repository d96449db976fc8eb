-- The page of the first cuts: how long its lists are, and the room. Assumes nothing.
use mathlib.Core.Path.{◌≡◌, refl, sym, ◌∙◌}
use mathlib.Core.Bool.{not}
use mathlib.Core.Logic.{⊎_elim}
use mathlib.Core.List.{List}
use Prim.Native.Nat.{ℕ, zero, suc, ◌+◌, ◌-◌, ◌/◌, ◌^◌, ◌≤◌, ◌<◌, min}
use native.Mathlib.Omega.{arith}
use borrow.Author.Tests.{eqb-false}
use lib.Dec.{eqb}
use lib.ListN.{length, length-append}
use lib.Pow.{pow_mono}
use lib.Ieee.{Float, binary64, div}
use Rattle.answers.proofs.PaperLaws.{refuse-done}
use Rattle.numbers.specs.Numbers.{one_float}
use Rattle.numbers.specs.Root.{sqrt_of}
use Rattle.complex.specs.Cells.{cells_of}
use Rattle.cuts.specs.Cut.{cut_cell}
use Rattle.values.specs.Lists.{all_finite, squares_from, minus_zero}
use Rattle.values.specs.Sort.{sorted_down}
use Rattle.values.proofs.ListLaws.{kept-le, length-scaled}
use Rattle.values.proofs.SortLaws.{length-sort}
use Rattle.svd_load.proofs.NumbersLaws.{length-numbers}
use Rattle.svd_columns.specs.Columns.{sorted_of}
use Rattle.svd_thin.specs.Thin.{values_of}
use Rattle.svd.specs.Svd.{side_of, s_of}
use Rattle.svd.proofs.SvdLaws.{side-wide, side-tall}
use Rattle.submasks.proofs.SubmaskLaws.{le-or-lt}
use Rattle.finish.specs.Finish.{floor_of, kept_values, normalised, finish_sorted, sorted_reply}
use Rattle.cut_values.specs.Schmidt.{cut_rows, cut_columns, singular_values, values_reply}
use Rattle.profile_cut.specs.Cut.{cut_list, room_at, values_at, reply_at}
use Rattle.profile_cut.proofs.CutLaws.{rows_are}
use Rattle.profile_walk.specs.Page.{cuts_to, cuts_room}

-- ---- a cut's values

finish-long : (sorted : List Float) → length (finish_sorted sorted) ≡ length (kept_values sorted)
unfolding finish_sorted normalised
finish-long sorted = length-scaled (div binary64 one_float (sqrt_of (squares_from minus_zero (kept_values sorted)))) (kept_values sorted)

finish-few : (sorted : List Float) → length (finish_sorted sorted) ≤ length sorted
unfolding kept_values
finish-few sorted = omega (arith, finish-long sorted, kept-le (floor_of sorted) sorted)

side-few : (m n : ℕ) → side_of m n ≤ m
side-few m n =
    ⊎_elim (λ (h : n ≤ m). omega (arith, (side-tall m n h).0)) (λ (h : m < n). omega (arith, (side-wide m n h).0)) (le-or-lt n m)

values-long : (a : List Float) (m n : ℕ) → length (s_of a m n) ≡ side_of m n
unfolding s_of values_of sorted_of
values-long a m n = length-numbers (side_of m n) _

singular-few : (s : List Float) (n : ℕ) (l : List ℕ) → length (singular_values s n l) ≤ cut_rows n l
unfolding singular_values
singular-few s n l =
    let a = cells_of (2 ^ n) (cut_cell s n l) in
    omega (arith, values-long a (cut_rows n l) (cut_columns n l), side-few (cut_rows n l) (cut_columns n l))

-- no more than the cut's room
pub values-few : (s : List Float) (n j : ℕ) → length (values_at s n j) ≤ room_at n j
unfolding values_at
values-few s n j =
    let v = singular_values s n (cut_list j) in
    omega (arith, finish-few (sorted_down v), length-sort v (length v), singular-few s n (cut_list j), rows_are n j)

-- one at least where the cut is answered 0
pub values-some : (s : List Float) (n j : ℕ) → (reply_at s n j).0 ≡ 0 → 0 < length (values_at s n j)
unfolding reply_at values_at values_reply sorted_reply
values-some s n j e =
    let v = singular_values s n (cut_list j) in
    let sorted = sorted_down v in
    let a = refuse-done (not (all_finite v)) 8 0 _ e in
    let b = refuse-done (eqb (length (kept_values sorted)) 0) 7 0 _ a.1 in
    let h : length (kept_values sorted) ≡ 0 → ⊥ = eqb-false (length (kept_values sorted)) 0 b.0 in
    pick (length (finish_sorted sorted)) (λ z. h (sym (finish-long sorted) ∙ z))
  where
    pick : (k : ℕ) → (k ≡ 0 → ⊥) → 0 < k
    pick zero h = absurd (h refl)
    pick (suc k) h = omega arith

-- ---- the room

pub room-rises : (n j d : ℕ) → cuts_room n j ≤ cuts_room n (d + j)
unfolding cuts_room
room-rises n j zero = let e : 0 + j ≡ j = omega arith in rw e (omega arith)
room-rises n j (suc d) =
    let e : suc d + j ≡ suc (d + j) = omega arith in
    rw e (omega (arith, room-rises n j d))

-- cut j's room lies in the page's
pub room_within : (n j : ℕ) → suc j < n → cuts_room n j + room_at n j ≤ cuts_room n (n - 1)
unfolding cuts_room
room_within n j h =
    let e : n - 1 - suc j + suc j ≡ n - 1 = omega arith in
    rw e at (room-rises n (suc j) (n - 1 - suc j))

-- the smaller side has at most half the qubits
pub half-most : (n j : ℕ) → suc j < n → room_at n j ≤ 2 ^ (n / 2)
half-most n j h = pow_mono {i = min (suc j) (n - suc j)} {j = n / 2} (omega arith)

-- ---- the page's lists

pub values-within : (s : List Float) (n j : ℕ) → length (cuts_to s n j).values ≤ cuts_room n j
unfolding cuts_to cuts_room
values-within s n zero = omega arith
values-within s n (suc j) =
    omega (arith, length-append (cuts_to s n j).values (values_at s n j), values-within s n j, values-few s n j)
