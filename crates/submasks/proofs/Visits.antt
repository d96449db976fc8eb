-- THE STEPPING: from 0, `next_submask` visits every submask of a mask once, in rising order, nothing else, and then returns to 0.
-- Assumes nothing.
use Rattle.std.proofs.Common.{◌≡◌, ℕ, zero, suc, ◌+◌, ◌-◌, ◌%◌, ◌^◌, ◌<◌, ◌≤◌, sym, ap, ◌∙◌}
use lib.Bits.{bit_and, and_self}
use Rattle.submasks.specs.Submasks.{submask_at, submask_number, next_submask}
use Rattle.submasks.proofs.SubmaskLaws.{submask_count, next-submask_at, submask_at-first, submask_at-rises, submask_at-wraps, submask_at-submask_number, submask_number-submask_at, submask_number-lt}
use Rattle.submasks.proofs.BitLaws.{Submask, submask-zero, and_assoc}

-- j steps from 0
unfoldable pub stepped : ℕ → ℕ → ℕ
stepped m zero = 0
stepped m (suc j) = next_submask (stepped m j) m

pub record Visits (n m : ℕ) : Type 0 where
  pub nth : (j : ℕ) → stepped m j ≡ submask_at n m j
  pub only : (j : ℕ) → Submask (stepped m j) m
  pub each : (x : ℕ) → Submask x m → (submask_number n m x < submask_count n m) × (stepped m (submask_number n m x) ≡ x)
  pub once : (i j : ℕ) → i < submask_count n m → j < submask_count n m → stepped m i ≡ stepped m j → i ≡ j
  pub rising : (i j : ℕ) → i < j → j < submask_count n m → stepped m i < stepped m j
  pub back : stepped m (submask_count n m) ≡ 0

module _ (n m : ℕ) (l : n ≤ 64) (h : m < 2 ^ n) where
  nth : (j : ℕ) → stepped m j ≡ submask_at n m j
  unfolding stepped
  nth zero = sym (submask_at-first n m)
  nth (suc j) = ap (λ (x : ℕ). next_submask x m) (nth j) ∙ next-submask_at n m j l h

  only : (j : ℕ) → Submask (stepped m j) m
  unfolding stepped
  only zero = submask-zero m
  only (suc j) =
      let x = (stepped m j + (2 ^ 64 - m)) % 2 ^ 64 in
      and_assoc x m m ∙ ap (bit_and x) (and_self m)

  pub visits : Visits n m
  visits = record {
    nth = nth;
    only = only;
    each = λ x s. (submask_number-lt n m x, nth (submask_number n m x) ∙ submask_at-submask_number n m x h ∙ s);
    once = λ i j p q e.
        sym (submask_number-submask_at n m i p) ∙ ap (submask_number n m) (sym (nth i) ∙ e ∙ nth j) ∙ submask_number-submask_at n m j q;
    rising = λ i j p q. rw (nth i, nth j) (submask_at-rises n m i j p q);
    back = nth (submask_count n m) ∙ submask_at-wraps n m;
  }
