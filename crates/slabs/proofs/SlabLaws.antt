-- What the tests and the changes make of a call. Assumes nothing.
use mathlib.Core.Path.{◌≡◌, refl, sym, ap, ◌∙◌}
use mathlib.Core.Bool.{Bool, true, false}
use mathlib.Core.List.{List}
use Prim.Native.Nat.{ℕ, ◌+◌, ◌*◌, ◌≤◌, ◌<◌}
use native.Mathlib.Omega.{arith}
use lib.ListN.{length}
use borrow.Author.Tests.{ltb-true, eqb-false}
use Rattle.std.specs.Prelude.{Result, Ok}
use Rattle.answers.specs.declared.Refusal.{Refusal}
use Rattle.answers.specs.Paper.{paper, given}
use Rattle.answers.proofs.PaperLaws.{done-new}
use Rattle.answers.proofs.Stopped.{was-done}
use Rattle.slab_sites.specs.Sites.{count, site_at}
use Rattle.slab_cells.proofs.CellLaws.{ends-within}
use Rattle.slab_tests.specs.Tests.{sound, entry_of, room, spot, Judged}
use Rattle.slab_tests.proofs.TestLaws.{sound-count, sound-apart, spot-fits, PutPasses, ReplacePasses, put-passed, replace-passed}

-- ---- put: the tests gave the first cell t

module _ (cells index : List ℕ) (site : ℕ) (numbers : List ℕ) {r : Result ℕ Refusal} {t : ℕ} (j : Judged false cells index site (length numbers) r) (d : r ≡ Ok t) where
  put-ok : PutPasses cells index site (length numbers)
  put-ok = put-passed cells index site (length numbers) (was-done r _ j.answer-is d)

  put-start : t ≡ spot (room index 64 (length numbers))
  put-start = sym (ap (given 0) d) ∙ j.start_is ∙ sym (done-new (paper r).0 _ 0 (was-done r (paper r) refl d))

  pub put-fits : (count index < 64) × (2 * t + length numbers ≤ 8192)
  put-fits =
      let f = spot-fits index 64 (length numbers) put-ok.good put-ok.fits in
      (omega (arith, sound-count cells index put-ok.sound-is, eqb-false (count index) 64 put-ok.spare), omega (arith, f, put-start))

-- ---- drop

module _ (cells index : List ℕ) {s : Bool} (e : s ≡ sound cells index) (f : s ≡ true) where
  pub drop-fits : {i : ℕ} → i < count index → (i < count index) × (count index ≤ 64) × ((site_at index i).start + (site_at index i).cells ≤ 4096)
  drop-fits {i} l = (l, sound-count cells index (sym e ∙ f), ends-within index (count index) i (sound-apart cells index (sym e ∙ f)) l refl)

-- ---- replace: the tests gave the first cell t

module _ (cells index : List ℕ) (site : ℕ) (numbers : List ℕ) {r : Result ℕ Refusal} {t : ℕ} (j : Judged true cells index site (length numbers) r) (d : r ≡ Ok t) where
  replace-ok : ReplacePasses cells index site (length numbers)
  replace-ok = replace-passed cells index site (length numbers) (was-done r _ j.answer-is d)

  pub replace-count : count index ≤ 64
  replace-count = sound-count cells index replace-ok.sound-is

  pub replace-known : entry_of index site < count index
  replace-known = ltb-true (entry_of index site) (count index) replace-ok.known

  replace-start : t ≡ spot (room index (entry_of index site) (length numbers))
  replace-start = sym (ap (given 0) d) ∙ j.start_is ∙ sym (done-new (paper r).0 _ 0 (was-done r (paper r) refl d))

  pub replace-fits : {i : ℕ} → i ≡ entry_of index site → (i < 64) × ((site_at index i).start + (site_at index i).cells ≤ 4096) × (2 * t + length numbers ≤ 8192)
  replace-fits {i} k =
      let f = spot-fits index (entry_of index site) (length numbers) replace-ok.good replace-ok.fits in
      let l : i < count index = omega (arith, k, replace-known) in
      (omega (arith, l, replace-count), ends-within index (count index) i (sound-apart cells index replace-ok.sound-is) l refl, omega (arith, f, replace-start))
