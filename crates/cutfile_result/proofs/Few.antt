-- How many values a file can have, and that they stand at the front. Assumes nothing.
use mathlib.Core.Path.{◌≡◌, sym, ap₂, ◌∙◌}
use mathlib.Core.Bool.{false}
use mathlib.Core.List.{List, ◌++◌}
use Prim.Native.Nat.{ℕ, ◌-◌, ◌≤◌}
use native.Mathlib.Nat.{min-le_left, min-le_right}
use native.Mathlib.Omega.{arith}
use lib.Ieee.{Float}
use lib.ListN.{length, take, drop, length-append}
use lib.Pow.{pow_mono}
use lib.Seq.{take-append-le, take-append_seam}
use Rattle.answers.specs.Paper.{given}
use Rattle.answers.proofs.PaperLaws.{and_then-done, done-new, end-new}
use Rattle.complex.specs.Zeros.{zeros, zeroed}
use Rattle.cut_sides.specs.Sides.{cut_refusal, side}
use Rattle.cutfile.specs.Bytes.{word32}
use Rattle.cutfile.specs.Layout.{header_answer, LongEnough, file_entry}
use Rattle.cutfile.proofs.LayoutLaws.{accepted}
use Rattle.tables.specs.Tables.{filled}
use Rattle.tables.proofs.TablesLaws.{take-filled}
use Rattle.finish.specs.Finish.{padded}
use Rattle.sweeps.specs.Sweeping.{no_sweeps}
use Rattle.cut_values.specs.Schmidt.{cut_rows, singular_values, cut_values_rest, cut_values_tests, values_reply, cut_values_answer, no_cut}
use Rattle.cut_values.proofs.Few.{few-left, few-singular}
use Rattle.cutfile_result.specs.declared.CutResult.{CutResult}
use Rattle.cutfile_result.specs.Result.{state_of, cut_reply, values_at, library_reply, file_reply, file_list, file_values, file_sweeps, file_exact, Result}

-- a file's cut has at most 16 rows
pub few-rows : (n : ℕ) (l : List ℕ) → n ≤ 9 → cut_rows n l ≤ 16
few-rows n l h =
    let low : side l n ≤ length l = min-le_left (length l) (n - length l) in
    let high : side l n ≤ n - length l = min-le_right (length l) (n - length l) in
    let four : side l n ≤ 4 = omega arith in
    pow_mono {i = side l n} {j = 4} four

-- and they stand at the front
front : (n : ℕ) (l old : List Float) → take (length l) (padded n l old) ≡ l
unfolding padded
front n l old =
    take-append-le (length l) (l ++ zeros (n - length l)) (drop n old) (omega (arith, length-append l (zeros (n - length l))))
    ∙ take-append_seam l (zeros (n - length l))

-- the values of a file that is answered 0 are the first `count` of what was lent
module _ (file list : List ℕ) (values : List Float) (r : CutResult) (list' : List ℕ) (values' : List Float) (is : Result file list values r list' values')
    (e : (file_reply file).0 ≡ 0) where
  header-done : (header_answer file).0 ≡ 0
  unfolding file_reply
  header-done = (and_then-done (header_answer file) (library_reply file (word32 file 4) (word32 file 8)) e).0

  library-done : (library_reply file (word32 file 4) (word32 file 8)).0 ≡ 0
  unfolding file_reply
  library-done = (and_then-done (header_answer file) (library_reply file (word32 file 4) (word32 file 8)) e).1

  pub n-word : r.n ≡ word32 file 4
  n-word = is.n-is ∙ sym (done-new (header_answer file).0 (word32 file 4) 0 header-done)

  pub k-word : r.k ≡ word32 file 8
  k-word = is.k-is ∙ sym (done-new (header_answer file).0 (word32 file 8) 0 header-done)

  pub fits : LongEnough file (word32 file 4) (word32 file 8)
  fits = (accepted file header-done).0

  pub count-is : (given no_cut r.cut).count ≡ length (file_values file)
  count-is = is.count ∙ sym (done-new (file_reply file).0 (length (file_values file)) 0 e)

  pub sweeps-is : (given no_cut r.cut).sweeps ≡ file_sweeps file
  sweeps-is = is.sweeps-are ∙ sym (done-new (file_reply file).0 (file_sweeps file) no_sweeps e)

  pub exact-file : (given no_cut r.cut).exact ≡ file_exact file
  exact-file = is.exact-is ∙ sym (done-new (file_reply file).0 (file_exact file) false e)

  pub count-few : (given no_cut r.cut).count ≤ 16
  count-few =
      let n = word32 file 4 in
      let s = state_of file n (word32 file 8) in
      omega (arith, count-is, few-left (singular_values s n (file_list file)), few-singular s n (file_list file), few-rows n (file_list file) fits.n-small)

  pub list-front : take r.k list' ≡ file_list file
  list-front =
      ap₂ (λ (k : ℕ) (l : List ℕ). take k l) k-word
      (is.list-is ∙ sym (done-new (header_answer file).0 (filled (word32 file 8) (file_entry file) list) list header-done))
      ∙ take-filled (word32 file 8) (file_entry file) list

  pub values-front : take (given no_cut r.cut).count values' ≡ file_values file
  values-front =
      let n = word32 file 4 in
      let s = state_of file n (word32 file 8) in
      let l = file_list file in
      let v = file_values file in
      ap₂ (λ (k : ℕ) (x : List Float). take k x) count-is
      (is.values-are ∙ sym (done-new (header_answer file).0 (values_at s n l values) values header-done)
      ∙ sym (end-new (cut_reply s n l).0 (padded (cut_rows n l) v values) (zeroed (cut_rows n l) values) values library-done))
      ∙ front (cut_rows n l) v values

  -- the cut was not refused
  pub taken : (cut_refusal (file_list file) (word32 file 4) 10).0 ≡ 0
  unfolding cut_reply cut_values_answer cut_values_tests
  taken =
      let n = word32 file 4 in
      let s = state_of file n (word32 file 8) in
      let l = file_list file in
      (and_then-done (cut_refusal l n 10) (cut_values_rest s n (cut_rows n l) 16 4128)
      (and_then-done (cut_values_tests s n l 10 16 4128) (values_reply (singular_values s n l)) library-done).0).0
