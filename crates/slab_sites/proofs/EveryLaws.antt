-- Laws of a test at the first n numbers. Assumes nothing.
use mathlib.Core.Path.{◌≡◌, refl, sym, ap, ap₂, ◌∙◌}
use mathlib.Core.Bool.{Bool, true, false, cond, ◌&&◌, ◌||◌, and-false, or-true, true≢false}
use mathlib.Core.Logic.{⊎_elim}
use Prim.Native.Nat.{ℕ, zero, suc, ◌+◌, ◌-◌, ◌≤◌, ◌<◌}
use native.Mathlib.Nat.{eq-or-lt_of_le}
use native.Mathlib.Numerals.{add-one}
use native.Mathlib.Omega.{arith}
use Rattle.slab_sites.specs.Every.{every, some, seek}

-- ---- two tests

pub both : (a b : Bool) → a ≡ true → b ≡ true → (a && b) ≡ true
both a b e f = rw (e, f)

pub first_of : (a b : Bool) → (a && b) ≡ true → a ≡ true
first_of true b e = refl
first_of false b e = e

pub second-of : (a b : Bool) → (a && b) ≡ true → b ≡ true
second-of true b e = e
second-of false b e = absurd (true≢false (sym e))

pub neither-first : (a b : Bool) → (a || b) ≡ false → a ≡ false
neither-first true b e = e
neither-first false b e = refl

pub neither-second : (a b : Bool) → (a || b) ≡ false → b ≡ false
neither-second true b e = absurd (true≢false e)
neither-second false b e = e

-- a test has one answer
pub never_both : {A : Type 0} (b : Bool) → b ≡ true → b ≡ false → A
never_both b e f = absurd (true≢false (sym e ∙ f))

-- two tests that hold together are the same
pub same_test : (a b : Bool) → (a ≡ true → b ≡ true) → (b ≡ true → a ≡ true) → a ≡ b
same_test true true f g = refl
same_test true false f g = sym (f refl)
same_test false true f g = g refl
same_test false false f g = refl

-- a test that does not hold is false
pub not_so : (a : Bool) → (a ≡ true → ⊥) → a ≡ false
not_so true f = absurd (f refl)
not_so false f = refl

-- ---- all pass

module _ (p : ℕ → Bool) where
  pub every-none : every p 0 ≡ true
  unfolding every
  every-none = refl

  pub every_more : (n : ℕ) → every p n ≡ true → p n ≡ true → every p (n + 1) ≡ true
  unfolding every
  every_more n e f = rw add-one (both (every p n) (p n) e f)

  pub every-bad : (i n : ℕ) → i < n → p i ≡ false → every p n ≡ false
  unfolding every
  every-bad i zero h e = absurd (omega arith)
  every-bad i (suc n) h e =
      ⊎_elim
      (λ (j : i ≡ n). ap (λ (b : Bool). every p n && b) (ap p (sym j) ∙ e) ∙ and-false (every p n))
      (λ (j : i < n). ap (λ (b : Bool). b && p n) (every-bad i n j e))
      (eq-or-lt_of_le (omega arith))

  pub every-at : (n i : ℕ) → every p n ≡ true → i < n → p i ≡ true
  unfolding every
  every-at zero i e h = absurd (omega arith)
  every-at (suc n) i e h =
      ⊎_elim
      (λ (j : i ≡ n). ap p j ∙ second-of (every p n) (p n) e)
      (λ (j : i < n). every-at n i (first_of (every p n) (p n) e) j)
      (eq-or-lt_of_le (omega arith))

  pub every-all : (n : ℕ) → ((i : ℕ) → i < n → p i ≡ true) → every p n ≡ true
  unfolding every
  every-all zero f = refl
  every-all (suc n) f = both (every p n) (p n) (every-all n (λ i h. f i (omega arith))) (f n (omega arith))

  -- ---- some passes

  pub some_at : (i n : ℕ) → i < n → p i ≡ true → some p n ≡ true
  unfolding some
  some_at i zero h e = absurd (omega arith)
  some_at i (suc n) h e =
      ⊎_elim
      (λ (j : i ≡ n). ap (λ (b : Bool). some p n || b) (ap p (sym j) ∙ e) ∙ or-true (some p n))
      (λ (j : i < n). ap (λ (b : Bool). b || p n) (some_at i n j e))
      (eq-or-lt_of_le (omega arith))

  pub some-not : (n i : ℕ) → some p n ≡ false → i < n → p i ≡ false
  unfolding some
  some-not zero i e h = absurd (omega arith)
  some-not (suc n) i e h =
      ⊎_elim
      (λ (j : i ≡ n). ap p j ∙ neither-second (some p n) (p n) e)
      (λ (j : i < n). some-not n i (neither-first (some p n) (p n) e) j)
      (eq-or-lt_of_le (omega arith))

  pub some-none : (n : ℕ) → ((i : ℕ) → i < n → p i ≡ false) → some p n ≡ false
  unfolding some
  some-none zero f = refl
  some-none (suc n) f = rw (some-none n (λ i h. f i (omega arith)), f n (omega arith))

  pub some_more : (n : ℕ) → some p (suc n) ≡ (some p n || p n)
  unfolding some
  some_more n = refl

  -- ---- the first that passes

  pub seek_hit : (n i r : ℕ) → seek p i (n - i) ≡ r → i < n → p i ≡ true → i ≡ r
  unfolding seek
  seek_hit n i r e h f =
      let m : suc (n - (i + 1)) ≡ n - i = omega arith in
      sym (ap (λ (b : Bool). cond b i (seek p (suc i) (n - (i + 1)))) f) ∙ ap (seek p i) m ∙ e

  pub seek-miss : (n i r : ℕ) → seek p i (n - i) ≡ r → i < n → p i ≡ false → seek p (i + 1) (n - (i + 1)) ≡ r
  unfolding seek
  seek-miss n i r e h f =
      let m : suc (n - (i + 1)) ≡ n - i = omega arith in
      ap (λ (x : ℕ). seek p x (n - (i + 1))) (add-one i)
      ∙ sym (ap (λ (b : Bool). cond b i (seek p (suc i) (n - (i + 1)))) f)
      ∙ ap (seek p i) m
      ∙ e

  pub seek-end : (n i r : ℕ) → seek p i (n - i) ≡ r → i ≤ n → n ≤ i → n ≡ r
  unfolding seek
  seek-end n i r e h l =
      let m : 0 ≡ n - i = omega arith in
      let j : n ≡ i = omega arith in
      j ∙ ap (seek p i) m ∙ e

  pub seek-begin : (n : ℕ) → seek p 0 (n - 0) ≡ seek p 0 n
  seek-begin n = ap (seek p 0) (omega arith)

  seek-case : (i m : ℕ) (b : Bool) → p i ≡ b → ((j : ℕ) → suc i ≤ j → j < seek p (suc i) m → p j ≡ false)
      → (j : ℕ) → i ≤ j → j < cond b i (seek p (suc i) m) → p j ≡ false
  seek-case i m true e f j l h = absurd (omega arith)
  seek-case i m false e f j l h = ⊎_elim (λ (k : i ≡ j). ap p (sym k) ∙ e) (λ (k : i < j). f j (omega arith) h) (eq-or-lt_of_le l)

  -- none before it passes
  pub seek-before : (m i : ℕ) → (j : ℕ) → i ≤ j → j < seek p i m → p j ≡ false
  unfolding seek
  seek-before zero i j l h = absurd (omega arith)
  seek-before (suc m) i j l h = seek-case i m (p i) refl (seek-before m (suc i)) j l h

  found-case : (i m : ℕ) (b : Bool) → p i ≡ b → (seek p (suc i) m < suc i + m → p (seek p (suc i) m) ≡ true)
      → cond b i (seek p (suc i) m) < i + suc m → p (cond b i (seek p (suc i) m)) ≡ true
  found-case i m true e f h = e
  found-case i m false e f h = f (omega arith)

  -- it passes, where it is one of the numbers
  pub seek_found : (m i : ℕ) → seek p i m < i + m → p (seek p i m) ≡ true
  unfolding seek
  seek_found zero i h = absurd (omega arith)
  seek_found (suc m) i h = found-case i m (p i) refl (seek_found m (suc i)) h

  bound-case : (i m : ℕ) (b : Bool) → seek p (suc i) m ≤ suc i + m → cond b i (seek p (suc i) m) ≤ i + suc m
  bound-case i m true h = omega arith
  bound-case i m false h = omega arith

  pub seek-bound : (m i : ℕ) → seek p i m ≤ i + m
  unfolding seek
  seek-bound zero i = omega arith
  seek-bound (suc m) i = bound-case i m (p i) (seek-bound m (suc i))

-- ---- tests that agree

pub every-same : (p q : ℕ → Bool) (n : ℕ) → ((i : ℕ) → i < n → p i ≡ q i) → every p n ≡ every q n
unfolding every
every-same p q zero f = refl
every-same p q (suc n) f = ap₂ (λ (a b : Bool). a && b) (every-same p q n (λ i h. f i (omega arith))) (f n (omega arith))

pub some_same : (p q : ℕ → Bool) (n : ℕ) → ((i : ℕ) → i < n → p i ≡ q i) → some p n ≡ some q n
unfolding some
some_same p q zero f = refl
some_same p q (suc n) f = ap₂ (λ (a b : Bool). a || b) (some_same p q n (λ i h. f i (omega arith))) (f n (omega arith))

pub seek-same : (p q : ℕ → Bool) (m i : ℕ) → ((j : ℕ) → j < i + m → p j ≡ q j) → seek p i m ≡ seek q i m
unfolding seek
seek-same p q zero i f = refl
seek-same p q (suc m) i f =
    ap₂ (λ (b : Bool) (x : ℕ). cond b i x) (f i (omega arith)) (seek-same p q m (suc i) (λ j h. f j (omega arith)))
