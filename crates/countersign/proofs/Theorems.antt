-- What a reader may want to know of this crate's definitions and calls. Assumes nothing.
use mathlib.Core.Path.{◌≡◌, refl, sym, ap, ◌∙◌}
use mathlib.Core.Bool.{Bool, true, false, cond, true≢false}
use mathlib.Core.List.{List}
use Prim.Native.Nat.{ℕ, zero, suc, ◌*◌, ◌≤◌, ◌<◌}
use native.Mathlib.Omega.{arith}
use lib.Dec.{ltb}
use borrow.Author.Tests.{ltb-false, le-ltb}
use lib.Ieee.{Float}
use Rattle.std.proofs.Common.{Result, Ok, Err}
use Rattle.answers.specs.declared.Refusal.{Refusal}
use Rattle.answers.specs.Paper.{paper, if_done}
use Rattle.answers.proofs.Theorems.{result-one}
use Rattle.countersign_products.specs.Products.{product_fits}
use Rattle.countersign_grams.specs.Grams.{gram_fits}
use Rattle.countersign_scans.specs.Scans.{first_fail, value_fits}
use Rattle.countersign_scans.proofs.ScanLaws.{before-holds, there-fails, all_hold}
use Rattle.matrix_sizes.specs.Sizes.{side_of}
use Rattle.countersign_checks.specs.Checks.{countersign_tests}
use Rattle.countersign.proofs.GridLaws.{all-on-grid}
use Rattle.countersign.specs.declared.Finding.{Finding}
use Rattle.countersign.specs.declared.Finding.TheVariants.{Yes, Product, Left, Right, Values}
use Rattle.countersign.specs.Verdict.{Says, says, found, fails_at, verdict_of, Countersign}
use Rattle.countersign.specs.Reader.{OnGrid, Sound}
use Rattle.countersign.proofs.Carried.{entries-near, entries-hold, grams-near, grams-hold, value-least, value-falls, values-hold}

-- ---- one outcome

unsay : Bool → ℕ → ℕ → Finding
unsay true t c = Yes
unsay false zero c = Yes
unsay false (suc zero) c = Product c
unsay false (suc (suc zero)) c = Left c
unsay false (suc (suc (suc zero))) c = Right c
unsay false (suc (suc (suc (suc t)))) c = Values c

back : (f : Finding) → unsay (says f).0 (says f).1 (says f).2 ≡ f
unfolding unsay
back Yes = refl
back (Product c) = refl
back (Left c) = refl
back (Right c) = refl
back (Values c) = refl

-- A finding's three numbers say which finding it is, so a contract that states them leaves one finding.
pub says-one : (f g : Finding) → says f ≡ says g → f ≡ g
says-one f g e = sym (back f) ∙ ap (λ (r : Says). unsay r.0 r.1 r.2) e ∙ back g

-- Only one outcome meets the contract of `countersign`: its answer and its finding.
pub countersign-one : (a : List Float) (m n : ℕ) (u s vt : List Float) (t : ℕ) (r q : Result Finding Refusal)
    → Countersign a m n u s vt t r → Countersign a m n u s vt t q → r ≡ q
countersign-one a m n u s vt t r q x y =
    let e : paper r ≡ paper q = x.answer ∙ sym y.answer in
    let f : found r ≡ found q = x.finding ∙ rw e (sym y.finding) in
    result-one r q e (λ v w g h. says-one v w (sym (ap found g) ∙ f ∙ ap found h))

-- ---- yes exactly when

passed : (test cell cells : ℕ) (rest : Says) → fails_at test cell cells rest ≡ (true, 0, 0) → (cells ≤ cell) × (rest ≡ (true, 0, 0))
unfolding fails_at
passed test cell cells rest e = go (ltb cell cells) refl e
  where
    go : (b : Bool) → ltb cell cells ≡ b → cond b (false, test, cell) rest ≡ (true, 0, 0) → (cells ≤ cell) × (rest ≡ (true, 0, 0))
    go true d f = absurd (true≢false (sym (ap (λ (r : Says). r.0) f)))
    go false d f = (ltb-false cell cells d, f)

pass : (test cell cells : ℕ) (rest : Says) → cell ≡ cells → rest ≡ (true, 0, 0) → fails_at test cell cells rest ≡ (true, 0, 0)
unfolding fails_at
pass test cell cells rest e f = let h : cells ≤ cell = omega arith in rw (le-ltb cell cells h) f

every : (f : ℕ → Bool) (n : ℕ) → n ≤ first_fail f 0 n → (c : ℕ) → c < n → f c ≡ true
every f n h c l = before-holds f 0 n c (omega arith) (omega arith)

module _ (a : List Float) (m n k : ℕ) (u s vt : List Float) (t : ℕ) where
  -- Where the four tests say yes the factors are sound, in the integers.
  pub verdict-sound : verdict_of a m n k u s vt t ≡ (true, 0, 0) → Sound a m n k u s vt t
  unfolding verdict_of
  verdict-sound e =
      let p = passed 1 _ (m * n) _ e in
      let l = passed 2 _ (k * k) _ p.1 in
      let r = passed 3 _ (k * k) _ l.1 in
      let v = passed 4 _ k (true, 0, 0) r.1 in
      let w = every (value_fits s) k v.0 in
      record {
        product = entries-near a u s vt m n k t (every (product_fits a u s vt m n k t) (m * n) p.0);
        left = grams-near u m k t (every (gram_fits u m k t) (k * k) l.0);
        right = grams-near vt n k t (every (gram_fits vt n k t) (k * k) r.0);
        falls = λ i h. value-falls s i (w (suc i) h);
        least = λ i h. value-least s i (w i h);
      }

  -- Where the factors are sound the four tests say yes.
  pub sound-verdict : Sound a m n k u s vt t → verdict_of a m n k u s vt t ≡ (true, 0, 0)
  unfolding verdict_of
  sound-verdict x =
      pass 1 _ (m * n) _ (all_hold (product_fits a u s vt m n k t) (m * n) (entries-hold a u s vt m n k t x.product))
      (pass 2 _ (k * k) _ (all_hold (gram_fits u m k t) (k * k) (grams-hold u m k t x.left))
      (pass 3 _ (k * k) _ (all_hold (gram_fits vt n k t) (k * k) (grams-hold vt n k t x.right))
      (pass 4 _ k (true, 0, 0) (all_hold (value_fits s) k (values-hold s k x.falls x.least)) refl)))

done-yes : (x : ℕ) (v : Says) → if_done x v (false, 0, 0) ≡ (true, 0, 0) → (x ≡ 0) × (v ≡ (true, 0, 0))
done-yes zero v e = (refl, e)
done-yes (suc x) v e = absurd (true≢false (sym (ap (λ (r : Says). r.0) e)))

found-yes : (r : Result Finding Refusal) → found r ≡ (true, 0, 0) → r ≡ Ok Yes
found-yes (Ok f) e = ap Ok (says-one f Yes e)
found-yes (Err x) e = absurd (true≢false (sym (ap (λ (r : Says). r.0) e)))

-- The call says yes exactly when it refuses nothing, every entry of A less U·S·V† is within the tolerance in each
-- part, both sets of vectors are orthonormal within it, and S never rises and is never negative.
pub countersign-yes : (a : List Float) (m n : ℕ) (u s vt : List Float) (t : ℕ) (r : Result Finding Refusal) → Countersign a m n u s vt t r
    → (r ≡ Ok Yes → ((countersign_tests a m n u s vt).0 ≡ 0) × Sound a m n (side_of m n) u s vt t)
    × (((countersign_tests a m n u s vt).0 ≡ 0) × Sound a m n (side_of m n) u s vt t → r ≡ Ok Yes)
countersign-yes a m n u s vt t r x = (
  λ e.
      let d = done-yes (paper r).0 (verdict_of a m n (side_of m n) u s vt t) (sym x.finding ∙ ap found e) in
      (sym (ap (λ (z : ℕ × ℕ). z.0) x.answer) ∙ d.0, verdict-sound a m n (side_of m n) u s vt t d.1),
  λ h.
      found-yes r
      (x.finding
      ∙ ap (λ (z : ℕ). if_done z (verdict_of a m n (side_of m n) u s vt t) (false, 0, 0)) (ap (λ (z : ℕ × ℕ). z.0) x.answer ∙ h.0)
      ∙ sound-verdict a m n (side_of m n) u s vt t h.1),
)

-- Where a test fails at a cell, it fails there and holds at every cell before it.
pub first-failing : (f : ℕ → Bool) (n : ℕ) → first_fail f 0 n < n → (f (first_fail f 0 n) ≡ false) × ((c : ℕ) → c < first_fail f 0 n → f c ≡ true)
first-failing f n h = (there-fails f 0 n (omega arith), λ c l. before-holds f 0 n c (omega arith) l)

-- Where the call refuses nothing, every number of the four arguments is on the grid, so that its whole number is
-- exactly it (`number-exact` of crate `countersign_cells`).
pub accepted-on-grid : (a : List Float) (m n : ℕ) (u s vt : List Float) → (countersign_tests a m n u s vt).0 ≡ 0 → OnGrid a × OnGrid u × OnGrid s × OnGrid vt
accepted-on-grid a m n u s vt e = all-on-grid a m n u s vt e
