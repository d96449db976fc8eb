-- How many values a cut has: no more than rows, and where 8 is not answered at least one. Assumes nothing.
use mathlib.Core.Path.{◌≡◌, refl}
use mathlib.Core.Bool.{false, not}
use mathlib.Core.Logic.{⊎_elim}
use mathlib.Core.List.{List}
use Prim.Native.Nat.{ℕ, zero, suc, ◌≤◌, ◌<◌}
use native.Mathlib.Omega.{arith}
use lib.Ieee.{Float}
use lib.ListN.{length}
use lib.Dec.{eqb}
use borrow.Author.Tests.{eqb-false}
use Rattle.answers.specs.Paper.{done, refuse}
use Rattle.answers.proofs.PaperLaws.{refuse-done}
use Rattle.whole_numbers.proofs.WholeLaws.{le-or-lt}
use Rattle.tables.proofs.TablesLaws.{length-table}
use Rattle.svd_columns.specs.Columns.{sorted_of}
use Rattle.values.specs.Lists.{kept_above, all_finite}
use Rattle.values.proofs.ListLaws.{length-scaled, kept-le}
use Rattle.values.specs.Sort.{sorted_down}
use Rattle.values.proofs.SortLaws.{length-sort}
use Rattle.finish.specs.Finish.{floor_of, normalised, kept_values, finish_sorted, finish_of, sorted_reply, finish_reply}
use Rattle.svd_thin.specs.Thin.{values_of}
use Rattle.svd.specs.Svd.{side_of, s_of}
use Rattle.svd.proofs.SvdLaws.{side-wide, side-tall}
use Rattle.cut_values.specs.Schmidt.{cut_rows, cut_columns, singular_values}
use Rattle.cut_values.proofs.SchmidtLaws.{same-le}

length-of-scaled : (l : List Float) → length (normalised l) ≡ length l
unfolding normalised
length-of-scaled l = length-scaled _ l

pub few-left : (values : List Float) → length (finish_of values) ≤ length values
unfolding finish_sorted kept_values
few-left values =
    let s = sorted_down values in
    omega (arith, length-of-scaled (kept_above (floor_of s) s), kept-le (floor_of s) s, length-sort values (length values))

-- where 8 is not answered, one is left
pub some-kept : (values : List Float) → (finish_reply values).0 ≡ 0 → 1 ≤ length (finish_of values)
unfolding finish_sorted sorted_reply
some-kept values e =
    let s = sorted_down values in
    let t : eqb (length (kept_values s)) 0 ≡ false = (refuse-done (eqb (length (kept_values s)) 0) 7 0 (refuse (not (all_finite (finish_sorted s))) (9, 0) done) e).0 in
    omega (arith, length-of-scaled (kept_values s), at_least (length (kept_values s)) (eqb-false (length (kept_values s)) 0 t))
  where
    at_least : (n : ℕ) → (n ≡ 0 → ⊥) → 1 ≤ n
    at_least zero h = absurd (h refl)
    at_least (suc n) h = omega arith

-- no more than the first of two sizes
side-first : (m k : ℕ) → side_of m k ≤ m
side-first m k =
    ⊎_elim (λ (h : k ≤ m). omega (arith, (side-tall m k h).0)) (λ (h : m < k). omega (arith, (side-wide m k h).0)) (le-or-lt k m)

pub few-singular : (s : List Float) (n : ℕ) (l : List ℕ) → length (singular_values s n l) ≤ cut_rows n l
unfolding singular_values s_of values_of sorted_of
few-singular s n l = same-le (length-table (side_of (cut_rows n l) (cut_columns n l)) _) (side-first (cut_rows n l) (cut_columns n l))
