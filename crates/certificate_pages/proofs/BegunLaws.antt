-- A file whose work was begun: its header is answered 0, and its cut is not refused by 1 to 7. Assumes nothing.
use mathlib.Core.Path.{◌≡◌, refl, sym, subst, ◌∙◌}
use mathlib.Core.Bool.{Bool, true, false, not}
use mathlib.Core.List.{List}
use mathlib.Core.Logic.{⊎_elim}
use Prim.Native.Nat.{ℕ, zero, suc, ◌<◌}
use native.Mathlib.Omega.{arith}
use lib.Dec.{ltb, eqb}
use Rattle.answers.specs.Paper.{Reply, done, refuse, after, and_then}
use Rattle.answers.proofs.PaperLaws.{stays, Worked, Ended}
use Rattle.cutfile.specs.Bytes.{word32, begins, all_zero}
use Rattle.cutfile.specs.Layout.{mark, amplitude_offset, file_length, gap, size_answer, file_offsets_answer, length_answer, fields_answer, header_answer}
use Rattle.cut_sides.specs.Sides.{cut_refusal}
use Rattle.cut_values.specs.Schmidt.{cut_rows, singular_values, cut_values_rest, cut_values_tests, values_reply, cut_values_answer}
use Rattle.cut_values.proofs.SchmidtLaws.{cut_small}
use Rattle.cutfile_result.specs.Result.{state_of, cut_reply, library_reply, file_reply, file_list}
use lib.ListN.{length}

-- a header is answered by 0, 1 or 10: what holds of these holds of it
module _ (P : ℕ → Type 0) (none : P 0) (one : P 1) (ten : P 10) where
  refuse-with : (t : Bool) (a b : Reply) → P a.0 → P b.0 → P (refuse t a b).0
  refuse-with true a b f g = f
  refuse-with false a b f g = g

  after-with : (k : ℕ) (a b : Reply) → P a.0 → P b.0 → P (after k a b).0
  after-with zero a b f g = g
  after-with (suc k) a b f g = f

  tens-with : (a b c : Bool) → P (refuse a (10, 0) (refuse b (10, 0) (refuse c (10, 0) done))).0
  tens-with a b c = refuse-with a (10, 0) _ ten (refuse-with b (10, 0) _ ten (refuse-with c (10, 0) done ten none))

  fields-with : (n k : ℕ) (file : List ℕ) → P (fields_answer n k file).0
  unfolding fields_answer size_answer file_offsets_answer length_answer
  fields-with n k file =
      after-with (size_answer n).0 (size_answer n) (and_then (file_offsets_answer k file) (length_answer n k file))
      (refuse-with (ltb n 1) (1, 0) (refuse (ltb 9 n) (1, 0) done) one (refuse-with (ltb 9 n) (1, 0) done one none))
      (after-with (file_offsets_answer k file).0 (file_offsets_answer k file) (length_answer n k file)
      (tens-with (ltb 64 k) (not (eqb (word32 file 12) 24)) (not (eqb (word32 file 16) (amplitude_offset k))))
      (tens-with (not (eqb (word32 file 20) (file_length n k))) (not (eqb (length file) (file_length n k))) (not (all_zero (gap k file)))))

  pub header-with : (file : List ℕ) → P (header_answer file).0
  unfolding header_answer
  header-with file =
      let F = fields_answer (word32 file 4) (word32 file 8) file in
      refuse-with (ltb (length file) 24) (10, 0) (refuse (not (begins mark file)) (10, 0) F) ten
      (refuse-with (not (begins mark file)) (10, 0) F ten (fields-with (word32 file 4) (word32 file 8) file))

-- an answer that the work itself does not give
abbrev Apart : Reply → Type 0
Apart a = Worked a.0 → ⊥

small-apart : (a : Reply) → a.0 < 8 → Apart a
small-apart a h w = omega (arith, h, w.0)

header-apart : (file : List ℕ) → Apart (header_answer file)
header-apart file = header-with (λ (x : ℕ). Worked x → ⊥) (λ w. omega (arith, w.0)) (λ w. omega (arith, w.0)) (λ w. omega (arith, w.1)) file

-- where the work ended, what came before it is answered 0
ended-first : (k : ℕ) (x b : Reply) → x.0 ≡ k → Apart x → Ended (after k x b).0 → k ≡ 0
ended-first zero x b e f h = refl
ended-first (suc k) x b e f h = ⊎_elim (λ (z : x.0 ≡ 0). sym e ∙ z) (λ (w : Worked x.0). absurd (f w)) h

ended-second : (k : ℕ) (c r v : Reply) → c.0 ≡ k → Apart c → Ended (and_then (after k c r) v).0 → k ≡ 0
ended-second zero c r v e f h = refl
ended-second (suc k) c r v e f h =
    let same : c ≡ and_then c v = stays c v (λ z. omega (arith, e, z)) in
    ended-first (suc k) c v e f (subst (λ (x : Reply). Ended x.0) (sym same) h)

module _ (file : List ℕ) (h : Ended (file_reply file).0) where
  pub begun-header : (header_answer file).0 ≡ 0
  unfolding file_reply
  begun-header = ended-first (header_answer file).0 (header_answer file) (library_reply file (word32 file 4) (word32 file 8)) refl (header-apart file) h

  begun-library : (k : ℕ) → (header_answer file).0 ≡ k → k ≡ 0 → Ended (after k (header_answer file) (library_reply file (word32 file 4) (word32 file 8))).0
      → Ended (library_reply file (word32 file 4) (word32 file 8)).0
  begun-library zero e z g = g
  begun-library (suc k) e z g = absurd (omega (arith, z))

  pub begun-taken : (cut_refusal (file_list file) (word32 file 4) 10).0 ≡ 0
  unfolding file_reply cut_reply cut_values_answer cut_values_tests
  begun-taken =
      let n = word32 file 4 in
      let s = state_of file n (word32 file 8) in
      let l = file_list file in
      let R = cut_values_rest s n (cut_rows n l) 16 4128 in
      let end = values_reply (singular_values s n l) in
      let g : Ended (and_then (and_then (cut_refusal l n 10) R) end).0 = begun-library (header_answer file).0 refl begun-header h in
      ended-second (cut_refusal l n 10).0 (cut_refusal l n 10) R end refl (small-apart (cut_refusal l n 10) (cut_small l n 10)) g
