-- Laws of `submask_at`: the step from one submask to the next, the bound, the way back, and that a mask and its complement
-- share every number below 2 ^ n between them. Each goes by induction on the number of digits, and by cases on the lowest
-- digits of m and j. Assumes nothing.
use Rattle.std.proofs.Common.{◌≡◌, ℕ, zero, suc, ◌+◌, ◌-◌, ◌*◌, ◌/◌, ◌%◌, ◌^◌, ◌<◌, ◌≤◌, max, ◌⊎◌, sym, refl, ap, ◌∙◌, ap₂, inl, inr, ⊎_elim, mul_assoc, mul_comm, add_comm, eq-or-lt_of_le, pow-suc, one-add, arith, pow_pos, pow_mono, pow-add, shr-shr}
use lib.Bits.{bit_and, bit_or, and_step, and_zero_r, and_zero_l, or_disjoint, or_step, or_zero_r, or_shr, or_mod}
pub use Rattle.whole_numbers.proofs.WholeLaws.{le-or-lt}
use Rattle.submasks.specs.Submasks.{submask_at, submask_number, next_submask, others}
use native.Mathlib.Nat.{min-le_left, zero-div}

-- how many submasks m has, among its n lowest digits
unfoldable pub submask_count : ℕ → ℕ → ℕ
submask_count zero m = 1
submask_count (suc n) m = submask_count n (m / 2) * 2 ^ (m % 2)

two : (d : ℕ) → d < 2 → (d ≡ 0) ⊎ (d ≡ 1)
two zero h = inl refl
two (suc zero) h = inr refl
two (suc (suc d)) h = absurd (omega arith)

-- a digit is 0 or 1
pub digit : (x : ℕ) → (x % 2 ≡ 0) ⊎ (x % 2 ≡ 1)
digit x = two (x % 2) (omega arith)

-- `submask_at`, unrolled, by the lowest digit of m
pub submask_at-zero : (m j : ℕ) → submask_at zero m j ≡ 0
unfolding submask_at
submask_at-zero m j = refl

pub submask_at-even : (n m j : ℕ) → m % 2 ≡ 0 → submask_at (suc n) m j ≡ submask_at n (m / 2) j * 2
unfolding submask_at
submask_at-even n m j e = let h : j / 1 ≡ j = omega arith in rw (e, h) (omega arith)

pub submask_at-odd : (n m j : ℕ) → m % 2 ≡ 1 → submask_at (suc n) m j ≡ submask_at n (m / 2) (j / 2) * 2 + j % 2
unfolding submask_at
submask_at-odd n m j e = rw e (omega arith)

pub submask_at-lt : (n m j : ℕ) → submask_at n m j < 2 ^ n
unfolding submask_at
submask_at-lt zero m j = omega arith
submask_at-lt (suc n) m j = rw pow-suc (omega (arith, submask_at-lt n (m / 2) (j / 2 ^ (m % 2)), min-le_left (m % 2) (j % 2)))

half_lt : (n m : ℕ) → m < 2 ^ suc n → m / 2 < 2 ^ n
half_lt n m h = omega (arith, rw pow-suc at h)

scaled : (q n : ℕ) → q * 2 ^ suc n ≡ q * 2 ^ n * 2
scaled q n = rw pow-suc (sym (mul_assoc q (2 ^ n) 2))

-- a number r with r + m + 1 the same as a submask x of m, modulo 2 ^ n, has x where m has a 1
pub hold : (n m j r q : ℕ) → m < 2 ^ n → r + m + 1 ≡ submask_at n m j + q * 2 ^ n → bit_and r m ≡ submask_at n m j
hold zero m j r q l e = let z : m ≡ 0 = omega arith in rw (z, and_zero_r, submask_at-zero)
hold (suc n) m j r q l e =
    let s : q * 2 ^ suc n ≡ q * 2 ^ n * 2 = scaled q n in
    and_step r m ∙ ⊎_elim
    (λ h.
    let d : submask_at (suc n) m j ≡ submask_at n (m / 2) j * 2 = submask_at-even n m j h in
    let i : bit_and (r / 2) (m / 2) ≡ submask_at n (m / 2) j = hold n (m / 2) j (r / 2) q (half_lt n m l) (omega arith) in
    rw (i, h, d) (omega arith))
    (λ h.
    let d : submask_at (suc n) m j ≡ submask_at n (m / 2) (j / 2) * 2 + j % 2 = submask_at-odd n m j h in
    let i : bit_and (r / 2) (m / 2) ≡ submask_at n (m / 2) (j / 2) = hold n (m / 2) (j / 2) (r / 2) q (half_lt n m l) (omega arith) in
    rw (i, h, d) (omega arith))
    (digit m)

-- a number r with r + m the same as the j-th submask, modulo 2 ^ n, has the next one where m has a 1
pub step : (n m j r q : ℕ) → m < 2 ^ n → r + m ≡ submask_at n m j + q * 2 ^ n → bit_and r m ≡ submask_at n m (suc j)
step zero m j r q l e = let z : m ≡ 0 = omega arith in rw (z, and_zero_r, submask_at-zero)
step (suc n) m j r q l e =
    let s : q * 2 ^ suc n ≡ q * 2 ^ n * 2 = scaled q n in
    and_step r m ∙ ⊎_elim
    (λ h.
    let d : submask_at (suc n) m j ≡ submask_at n (m / 2) j * 2 = submask_at-even n m j h in
    let i : bit_and (r / 2) (m / 2) ≡ submask_at n (m / 2) (suc j) = step n (m / 2) j (r / 2) q (half_lt n m l) (omega arith) in
    rw (i, h, submask_at-even n m (suc j) h) (omega arith))
    (λ h.
    let d : submask_at (suc n) m j ≡ submask_at n (m / 2) (j / 2) * 2 + j % 2 = submask_at-odd n m j h in
    ⊎_elim
    (λ g.
    let i : bit_and (r / 2) (m / 2) ≡ submask_at n (m / 2) (j / 2) = hold n (m / 2) (j / 2) (r / 2) q (half_lt n m l) (omega arith) in
    let k : suc j / 2 ≡ j / 2 = omega arith in
    rw (i, h, submask_at-odd n m (suc j) h, k) (omega arith))
    (λ g.
    let i : bit_and (r / 2) (m / 2) ≡ submask_at n (m / 2) (suc (j / 2)) = step n (m / 2) (j / 2) (r / 2) q (half_lt n m l) (omega arith) in
    let k : suc j / 2 ≡ suc (j / 2) = omega arith in
    rw (i, h, submask_at-odd n m (suc j) h, k) (omega arith))
    (digit j))
    (digit m)

-- THE STEP: from the j-th submask to the one after it
pub next-submask_at : (n m j : ℕ) → n ≤ 64 → m < 2 ^ n → next_submask (submask_at n m j) m ≡ submask_at n m (suc j)
next-submask_at n m j l h =
    let x : submask_at n m j < 2 ^ n = submask_at-lt n m j in
    let b : 2 ^ n ≤ 2 ^ 64 = pow_mono l in
    let t : 64 - n + n ≡ 64 = omega arith in
    let s : 2 ^ (64 - n) * 2 ^ n ≡ 2 ^ 64 = sym (pow-add 2 (64 - n) n) ∙ ap (λ (k : ℕ). 2 ^ k) t in
    ⊎_elim
    (λ (k : m ≤ submask_at n m j). step n m j ((submask_at n m j + (2 ^ 64 - m)) % 2 ^ 64) 0 h (omega arith))
    (λ (k : submask_at n m j < m). step n m j ((submask_at n m j + (2 ^ 64 - m)) % 2 ^ 64) (2 ^ (64 - n)) h (omega arith))
    (le-or-lt m (submask_at n m j))

-- ---- how many, and the way back

pub submask_count-even : (n m : ℕ) → m % 2 ≡ 0 → submask_count (suc n) m ≡ submask_count n (m / 2)
unfolding submask_count
submask_count-even n m e = rw e (omega arith)

pub submask_count-odd : (n m : ℕ) → m % 2 ≡ 1 → submask_count (suc n) m ≡ submask_count n (m / 2) * 2
unfolding submask_count
submask_count-odd n m e = rw e (omega arith)

pub submask_number-zero : (m x : ℕ) → submask_number zero m x ≡ 0
unfolding submask_number
submask_number-zero m x = refl

pub submask_count-zero : (m : ℕ) → submask_count zero m ≡ 1
unfolding submask_count
submask_count-zero m = refl

pub submask_number-even : (n m x : ℕ) → m % 2 ≡ 0 → submask_number (suc n) m x ≡ submask_number n (m / 2) (x / 2)
unfolding submask_number
submask_number-even n m x e = rw e (omega arith)

pub submask_number-odd : (n m x : ℕ) → m % 2 ≡ 1 → submask_number (suc n) m x ≡ submask_number n (m / 2) (x / 2) * 2 + x % 2
unfolding submask_number
submask_number-odd n m x e = rw e (omega arith)

-- after the last comes the first
pub submask_at-wraps : (n m : ℕ) → submask_at n m (submask_count n m) ≡ 0
submask_at-wraps zero m = submask_at-zero m (submask_count zero m)
submask_at-wraps (suc n) m =
    ⊎_elim
    (λ h. rw (submask_count-even n m h, submask_at-even n m (submask_count n (m / 2)) h, submask_at-wraps n (m / 2)))
    (λ h.
    let k : submask_count n (m / 2) * 2 / 2 ≡ submask_count n (m / 2) = omega arith in
    rw (submask_count-odd n m h, submask_at-odd n m (submask_count n (m / 2) * 2) h, k, submask_at-wraps n (m / 2)) (omega arith))
    (digit m)

pub submask_number-lt : (n m x : ℕ) → submask_number n m x < submask_count n m
submask_number-lt zero m x = rw (submask_number-zero, submask_count-zero) (omega arith)
submask_number-lt (suc n) m x =
    ⊎_elim
    (λ h. rw (submask_number-even n m x h, submask_count-even n m h) (submask_number-lt n (m / 2) (x / 2)))
    (λ h. rw (submask_number-odd n m x h, submask_count-odd n m h) (omega (arith, submask_number-lt n (m / 2) (x / 2))))
    (digit m)

-- the number of a submask, from the submask
pub submask_number-submask_at : (n m j : ℕ) → j < submask_count n m → submask_number n m (submask_at n m j) ≡ j
submask_number-submask_at zero m j l = let g : j < 1 = rw submask_count-zero at l in rw submask_number-zero (omega arith)
submask_number-submask_at (suc n) m j l =
    ⊎_elim
    (λ h.
    let k : submask_at n (m / 2) j * 2 / 2 ≡ submask_at n (m / 2) j = omega arith in
    rw (submask_at-even n m j h, submask_number-even n m (submask_at n (m / 2) j * 2) h, k)
    (submask_number-submask_at n (m / 2) j (rw (submask_count-even n m h) at l)))
    (λ h.
    let g : j < submask_count n (m / 2) * 2 = rw (submask_count-odd n m h) at l in
    let k : (submask_at n (m / 2) (j / 2) * 2 + j % 2) / 2 ≡ submask_at n (m / 2) (j / 2) = omega arith in
    rw (submask_at-odd n m j h, submask_number-odd n m (submask_at n (m / 2) (j / 2) * 2 + j % 2) h, k, submask_number-submask_at n (m / 2) (j / 2) (omega arith))
    (omega arith))
    (digit m)

-- the submask of a given number x: every submask of m is met, since it is its own `bit_and` with m
pub submask_at-submask_number : (n m x : ℕ) → m < 2 ^ n → submask_at n m (submask_number n m x) ≡ bit_and x m
submask_at-submask_number zero m x l = let z : m ≡ 0 = omega arith in rw (z, and_zero_r, submask_at-zero)
submask_at-submask_number (suc n) m x l =
    ⊎_elim
    (λ h.
    rw (and_step x m, h, submask_number-even n m x h, submask_at-even n m (submask_number n (m / 2) (x / 2)) h, submask_at-submask_number n (m / 2) (x / 2) (half_lt n m l))
    (omega arith))
    (λ h.
    let k : (submask_number n (m / 2) (x / 2) * 2 + x % 2) / 2 ≡ submask_number n (m / 2) (x / 2) = omega arith in
    rw (and_step x m, h, submask_number-odd n m x h, submask_at-odd n m (submask_number n (m / 2) (x / 2) * 2 + x % 2) h, k, submask_at-submask_number n (m / 2) (x / 2) (half_lt n m l))
    (omega arith))
    (digit m)

-- the order of the submasks is that of their numbers
pub submask_at-rises : (n m i j : ℕ) → i < j → j < submask_count n m → submask_at n m i < submask_at n m j
submask_at-rises zero m i j l h = let g : j < 1 = rw submask_count-zero at h in omega arith
submask_at-rises (suc n) m i j l h =
    ⊎_elim
    (λ e. rw (submask_at-even n m i e, submask_at-even n m j e) (omega (arith, submask_at-rises n (m / 2) i j l (rw (submask_count-even n m e) at h))))
    (λ e.
    let g : j < submask_count n (m / 2) * 2 = rw (submask_count-odd n m e) at h in
    rw (submask_at-odd n m i e, submask_at-odd n m j e)
    (⊎_elim
    (λ (k : i / 2 ≡ j / 2). rw k (omega arith))
    (λ (k : i / 2 < j / 2). omega (arith, submask_at-rises n (m / 2) (i / 2) (j / 2) k (omega arith)))
    (eq-or-lt_of_le (omega arith))))
    (digit m)

-- ---- a mask and the digits that it has not

others-half : (n m : ℕ) → m < 2 ^ suc n → others (suc n) m / 2 ≡ others n (m / 2)
others-half n m l = let p : 2 ^ suc n ≡ 2 ^ n * 2 = pow-suc 2 n in omega (arith, pow_pos n)

others-even : (n m : ℕ) → m < 2 ^ suc n → m % 2 ≡ 0 → others (suc n) m % 2 ≡ 1
others-even n m l h = let p : 2 ^ suc n ≡ 2 ^ n * 2 = pow-suc 2 n in omega (arith, pow_pos n)

others-odd : (n m : ℕ) → m < 2 ^ suc n → m % 2 ≡ 1 → others (suc n) m % 2 ≡ 0
others-odd n m l h = let p : 2 ^ suc n ≡ 2 ^ n * 2 = pow-suc 2 n in omega (arith, pow_pos n)

pub others-lt : (n m : ℕ) → others n m < 2 ^ n
others-lt n m = omega (arith, pow_pos n)

pub others-others : (n m : ℕ) → m < 2 ^ n → others n (others n m) ≡ m
others-others n m l = omega arith

-- a submask of m, and one of the others, unrolled
module _ (n m j c : ℕ) (l : m < 2 ^ suc n) where
  o-even : m % 2 ≡ 0 → submask_at (suc n) (others (suc n) m) c ≡ submask_at n (others n (m / 2)) (c / 2) * 2 + c % 2
  o-even h = rw (submask_at-odd n (others (suc n) m) c (others-even n m l h), others-half n m l)

  o-odd : m % 2 ≡ 1 → submask_at (suc n) (others (suc n) m) c ≡ submask_at n (others n (m / 2)) c * 2
  o-odd h = rw (submask_at-even n (others (suc n) m) c (others-odd n m l h), others-half n m l)

pub apart : (n m j c : ℕ) → m < 2 ^ n → bit_and (submask_at n m j) (submask_at n (others n m) c) ≡ 0
apart zero m j c l = rw (submask_at-zero, and_zero_l)
apart (suc n) m j c l =
    and_step (submask_at (suc n) m j) (submask_at (suc n) (others (suc n) m) c) ∙ ⊎_elim
    (λ h.
    let d : submask_at (suc n) m j ≡ submask_at n (m / 2) j * 2 = submask_at-even n m j h in
    let o : submask_at (suc n) (others (suc n) m) c ≡ submask_at n (others n (m / 2)) (c / 2) * 2 + c % 2 = o-even n m j c l h in
    let a : submask_at (suc n) m j / 2 ≡ submask_at n (m / 2) j = omega arith in
    let b : submask_at (suc n) (others (suc n) m) c / 2 ≡ submask_at n (others n (m / 2)) (c / 2) = omega arith in
    let i = apart n (m / 2) j (c / 2) (half_lt n m l) in
    rw (a, b, i) (omega arith))
    (λ h.
    let d : submask_at (suc n) m j ≡ submask_at n (m / 2) (j / 2) * 2 + j % 2 = submask_at-odd n m j h in
    let o : submask_at (suc n) (others (suc n) m) c ≡ submask_at n (others n (m / 2)) c * 2 = o-odd n m j c l h in
    let a : submask_at (suc n) m j / 2 ≡ submask_at n (m / 2) (j / 2) = omega arith in
    let b : submask_at (suc n) (others (suc n) m) c / 2 ≡ submask_at n (others n (m / 2)) c = omega arith in
    let i = apart n (m / 2) (j / 2) c (half_lt n m l) in
    rw (a, b, i) (omega arith))
    (digit m)

-- the union of the two is their sum
pub union : (n m j c : ℕ) → m < 2 ^ n → bit_or (submask_at n m j) (submask_at n (others n m) c) ≡ submask_at n m j + submask_at n (others n m) c
union n m j c l = or_disjoint (submask_at n m j) (submask_at n (others n m) c) (apart n m j c l)

-- from the sum, the row's number
pub row_of : (n m j c : ℕ) → m < 2 ^ n → j < submask_count n m → submask_number n m (submask_at n m j + submask_at n (others n m) c) ≡ j
row_of zero m j c l k = let g : j < 1 = rw submask_count-zero at k in rw submask_number-zero (omega arith)
row_of (suc n) m j c l k =
    let x = submask_at (suc n) m j + submask_at (suc n) (others (suc n) m) c in
    ⊎_elim
    (λ h.
    let d : submask_at (suc n) m j ≡ submask_at n (m / 2) j * 2 = submask_at-even n m j h in
    let o : submask_at (suc n) (others (suc n) m) c ≡ submask_at n (others n (m / 2)) (c / 2) * 2 + c % 2 = o-even n m j c l h in
    let a : x / 2 ≡ submask_at n (m / 2) j + submask_at n (others n (m / 2)) (c / 2) = omega arith in
    submask_number-even n m x h ∙ ap (submask_number n (m / 2)) a
    ∙ row_of n (m / 2) j (c / 2) (half_lt n m l) (rw (submask_count-even n m h) at k))
    (λ h.
    let d : submask_at (suc n) m j ≡ submask_at n (m / 2) (j / 2) * 2 + j % 2 = submask_at-odd n m j h in
    let o : submask_at (suc n) (others (suc n) m) c ≡ submask_at n (others n (m / 2)) c * 2 = o-odd n m j c l h in
    let g : j < submask_count n (m / 2) * 2 = rw (submask_count-odd n m h) at k in
    let a : x / 2 ≡ submask_at n (m / 2) (j / 2) + submask_at n (others n (m / 2)) c = omega arith in
    let i : submask_number n (m / 2) (x / 2) ≡ j / 2 = ap (submask_number n (m / 2)) a ∙ row_of n (m / 2) (j / 2) c (half_lt n m l) (omega arith) in
    submask_number-odd n m x h ∙ omega arith)
    (digit m)

-- from the sum, the column's number
pub column-of : (n m j c : ℕ) → m < 2 ^ n → c < submask_count n (others n m) → submask_number n (others n m) (submask_at n m j + submask_at n (others n m) c) ≡ c
column-of n m j c l k =
    let e : others n (others n m) ≡ m = others-others n m l in
    let r : submask_number n (others n m) (submask_at n (others n m) c + submask_at n (others n (others n m)) j) ≡ c = row_of n (others n m) c j (others-lt n m) k in
    ap (submask_number n (others n m)) (add_comm (submask_at n m j) (submask_at n (others n m) c)) ∙ (rw e at r)

-- every number below 2 ^ n is such a sum
pub met : (n m x : ℕ) → m < 2 ^ n → x < 2 ^ n → submask_at n m (submask_number n m x) + submask_at n (others n m) (submask_number n (others n m) x) ≡ x
met zero m x l k = rw (submask_at-zero, submask_at-zero) (omega arith)
met (suc n) m x l k =
    let f : others (suc n) m / 2 ≡ others n (m / 2) = others-half n m l in
    let i : submask_at n (m / 2) (submask_number n (m / 2) (x / 2)) + submask_at n (others n (m / 2)) (submask_number n (others n (m / 2)) (x / 2)) ≡ x / 2
    = met n (m / 2) (x / 2) (half_lt n m l) (half_lt n x k) in
    let E = submask_number n (m / 2) (x / 2) in
    let O = submask_number n (others n (m / 2)) (x / 2) in
    ⊎_elim
    (λ h.
    let e : submask_number (suc n) (others (suc n) m) x ≡ O * 2 + x % 2
    = submask_number-odd n (others (suc n) m) x (others-even n m l h) ∙ ap (λ (k : ℕ). submask_number n k (x / 2) * 2 + x % 2) f in
    let b : (O * 2 + x % 2) / 2 ≡ O = omega arith in
    rw (submask_number-even n m x h, e, submask_at-even n m E h, o-even n m 0 (O * 2 + x % 2) l h, b) (omega arith))
    (λ h.
    let e : submask_number (suc n) (others (suc n) m) x ≡ O
    = submask_number-even n (others (suc n) m) x (others-odd n m l h) ∙ ap (λ (k : ℕ). submask_number n k (x / 2)) f in
    let b : (E * 2 + x % 2) / 2 ≡ E = omega arith in
    rw (submask_number-odd n m x h, e, submask_at-odd n m (E * 2 + x % 2) h, o-odd n m 0 O l h, b) (omega arith))
    (digit m)

-- the two sides' counts make up the register
pub counts : (n m : ℕ) → m < 2 ^ n → submask_count n m * submask_count n (others n m) ≡ 2 ^ n
counts zero m l = rw (submask_count-zero, submask_count-zero)
counts (suc n) m l =
    let f : others (suc n) m / 2 ≡ others n (m / 2) = others-half n m l in
    let i : submask_count n (m / 2) * submask_count n (others n (m / 2)) ≡ 2 ^ n = counts n (m / 2) (half_lt n m l) in
    let A = submask_count n (m / 2) in
    let B = submask_count n (others n (m / 2)) in
    let w : A * (B * 2) ≡ 2 ^ suc n = sym (mul_assoc A B 2) ∙ ap (λ (x : ℕ). x * 2) i ∙ sym (pow-suc 2 n) in
    ⊎_elim
    (λ h. rw (submask_count-even n m h, submask_count-odd n (others (suc n) m) (others-even n m l h), f) w)
    (λ h.
    rw (submask_count-odd n m h, submask_count-even n (others (suc n) m) (others-odd n m l h), f)
    (mul_assoc A 2 B ∙ ap (λ (x : ℕ). A * x) (mul_comm 2 B) ∙ w))
    (digit m)

-- the first submask is 0
pub submask_at-first : (n m : ℕ) → submask_at n m 0 ≡ 0
submask_at-first zero m = submask_at-zero m 0
submask_at-first (suc n) m =
    ⊎_elim
    (λ h. rw (submask_at-even n m 0 h, submask_at-first n (m / 2)))
    (λ h. rw (submask_at-odd n m 0 h, submask_at-first n (m / 2)))
    (digit m)

-- ---- single digits

pub shr-suc : (x q : ℕ) → x / 2 ^ suc q ≡ x / 2 / 2 ^ q
shr-suc x q = sym (shr-shr x 1 q ∙ ap (λ (k : ℕ). x / 2 ^ k) (one-add q))

-- a digit that a mask lacks, set: twice as many submasks
pub submask_count-set : (n m q : ℕ) → q < n → m / 2 ^ q % 2 ≡ 0 → submask_count n (bit_or m (2 ^ q)) ≡ submask_count n m * 2
submask_count-set zero m q l h = absurd (omega arith)
submask_count-set (suc n) m zero l h =
    let s : bit_or m 1 ≡ bit_or (m / 2) 0 * 2 + max (m % 2) 1 = or_step m 1 in
    let z : bit_or (m / 2) 0 ≡ m / 2 = or_zero_r (m / 2) in
    let e : m % 2 ≡ 0 = omega arith in
    let a : bit_or m 1 / 2 ≡ m / 2 = omega arith in
    let b : bit_or m 1 % 2 ≡ 1 = omega arith in
    rw (submask_count-odd n (bit_or m 1) b, a, submask_count-even n m e)
submask_count-set (suc n) m (suc q) l h =
    let p : 2 ^ suc q ≡ 2 ^ q * 2 = pow-suc 2 q in
    let s : bit_or m (2 ^ suc q) ≡ bit_or (m / 2) (2 ^ suc q / 2) * 2 + max (m % 2) (2 ^ suc q % 2) = or_step m (2 ^ suc q) in
    let t : 2 ^ suc q / 2 ≡ 2 ^ q = omega arith in
    let u : bit_or (m / 2) (2 ^ suc q / 2) ≡ bit_or (m / 2) (2 ^ q) = ap (bit_or (m / 2)) t in
    let a : bit_or m (2 ^ suc q) / 2 ≡ bit_or (m / 2) (2 ^ q) = omega arith in
    let b : bit_or m (2 ^ suc q) % 2 ≡ m % 2 = omega arith in
    let g : m / 2 / 2 ^ q % 2 ≡ 0 = ap (λ (x : ℕ). x % 2) (sym (shr-suc m q)) ∙ h in
    let i : submask_count n (bit_or (m / 2) (2 ^ q)) ≡ submask_count n (m / 2) * 2 = submask_count-set n (m / 2) q (omega arith) g in
    ⊎_elim
    (λ e. rw (submask_count-even n (bit_or m (2 ^ suc q)) (b ∙ e), a, i, submask_count-even n m e))
    (λ e. rw (submask_count-odd n (bit_or m (2 ^ suc q)) (b ∙ e), a, i, submask_count-odd n m e))
    (digit m)

-- two different powers of two share no digit
pub power-digit : (p q : ℕ) → (p ≡ q → ⊥) → 2 ^ q / 2 ^ p % 2 ≡ 0
power-digit zero zero h = absurd (h refl)
power-digit zero (suc q) h = let p : 2 ^ suc q ≡ 2 ^ q * 2 = pow-suc 2 q in omega arith
power-digit (suc p) zero h = rw (shr-suc 1 p, zero-div)
power-digit (suc p) (suc q) h =
    let t : 2 ^ suc q / 2 ≡ 2 ^ q = omega (arith, pow-suc 2 q) in
    rw (shr-suc (2 ^ suc q) p, t) (power-digit p q (λ e. h (ap suc e)))

-- a digit that is 0 in both is 0 in the union
pub or-digit : (a b p : ℕ) → a / 2 ^ p % 2 ≡ 0 → b / 2 ^ p % 2 ≡ 0 → bit_or a b / 2 ^ p % 2 ≡ 0
or-digit a b p ha hb = rw (or_shr a b p) (or_mod (a / 2 ^ p) (b / 2 ^ p) 1 ∙ ap₂ bit_or ha hb)

pub submask_count-le : (n m : ℕ) → submask_count n m ≤ 2 ^ n
submask_count-le zero m = rw submask_count-zero (omega arith)
submask_count-le (suc n) m =
    let p : 2 ^ suc n ≡ 2 ^ n * 2 = pow-suc 2 n in
    let i : submask_count n (m / 2) ≤ 2 ^ n = submask_count-le n (m / 2) in
    ⊎_elim (λ h. rw (submask_count-even n m h) (omega arith)) (λ h. rw (submask_count-odd n m h) (omega arith)) (digit m)

-- 0 has the one submask 0
pub submask_count-none : (n : ℕ) → submask_count n 0 ≡ 1
submask_count-none zero = submask_count-zero 0
submask_count-none (suc n) = submask_count-even n 0 refl ∙ submask_count-none n

-- a digit of the others
pub others-digit : (n m q : ℕ) → m < 2 ^ n → q < n → others n m / 2 ^ q % 2 ≡ 1 - m / 2 ^ q % 2
others-digit zero m q l h = absurd (omega arith)
others-digit (suc n) m zero l h =
    let a : others (suc n) m / 1 ≡ others (suc n) m = omega arith in
    let b : m / 1 ≡ m = omega arith in
    ⊎_elim (λ e. omega (arith, others-even n m l e)) (λ e. omega (arith, others-odd n m l e)) (digit m)
others-digit (suc n) m (suc q) l h =
    rw (shr-suc (others (suc n) m) q, shr-suc m q, others-half n m l) (others-digit n (m / 2) q (half_lt n m l) (omega arith))
