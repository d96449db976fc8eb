-- The other qubits of an accepted list: as many as the register has left, and bits spread over them are the submasks of their mask, in
-- rising order. So the traced base of e is the e-th submask of the others' mask. Assumes nothing.
use mathlib.Core.Path.{◌≡◌, refl, sym, ap, ap₂, ◌∙◌}
use mathlib.Core.Logic.{⊎_elim}
use mathlib.Core.Bool.{Bool, true, false, ◌||◌}
use mathlib.Core.List.{List, [], ◌∷◌, ◌++◌, map, map-append, append_assoc, append-nil}
use Prim.Native.Nat.{ℕ, zero, suc, ◌-◌, ◌*◌, ◌/◌, ◌%◌, ◌^◌, ◌≤◌, ◌<◌}
use native.Mathlib.Nat.{zero-div, one-mul, mul-one, mul_assoc, pow-suc}
use native.Mathlib.Omega.{arith}
use borrow.Author.Tests.{eqb-true}
use lib.Bits.{bit_or, or_step, or_shifted_r}
use lib.Dec.{eqb}
use lib.ListN.{length, length-map}
use lib.Pow.{pow-lt, pow_mono, shl-shr}
use Rattle.submasks.specs.Submasks.{submask_at, others}
use Rattle.submasks.proofs.SubmaskLaws.{submask_count, le-or-lt, digit, submask_at-zero, submask_at-even, submask_at-odd, submask_at-lt, submask_count-zero, submask_count-even, submask_count-odd, shr-suc, others-digit}
use Rattle.submasks.proofs.BitLaws.{or-digit-l, or-digit-r}
use Rattle.qubits.specs.Lists.{stands, Listed}
use Rattle.qubits.specs.Spread.{spread, unless, other_qubits, traced_base, mask_from, named}
use Rattle.qubits.proofs.SpreadLaws.{spread_none, spread-cons}
use Rattle.qubits.proofs.NamedLaws.{not_there, named-lt, others-count}

-- q, if the digit is 1; and the qubits below n that the mask m has, rising
abbrev single : ℕ → ℕ → List ℕ
single zero q = []
single (suc d) q = q ∷ []

unfoldable rising : ℕ → ℕ → List ℕ
rising zero m = []
rising (suc q) m = rising q m ++ single (m / 2 ^ q % 2) q

-- ---- the same list by its lowest qubit

single-suc : (d q : ℕ) → single d (suc q) ≡ map suc (single d q)
single-suc zero q = refl
single-suc (suc d) q = refl

rising_none : (m : ℕ) → rising 0 m ≡ []
unfolding rising
rising_none m = refl

rising-more : (q m : ℕ) → rising (suc q) m ≡ rising q m ++ single (m / 2 ^ q % 2) q
unfolding rising
rising-more q m = refl

rising-low : (n m : ℕ) → rising (suc n) m ≡ single (m % 2) 0 ++ map suc (rising n (m / 2))
rising-low zero m =
    let h : m / 1 ≡ m = omega arith in
    rw (rising-more 0 m, rising_none m, rising_none (m / 2), h, append-nil)
rising-low (suc n) m =
    rising-more (suc n) m
    ∙ ap₂ (λ (a b : List ℕ). a ++ b) (rising-low n m) (ap (λ (d : ℕ). single (d % 2) (suc n)) (shr-suc m n) ∙ single-suc (m / 2 / 2 ^ n % 2) n)
    ∙ append_assoc (single (m % 2) 0) (map suc (rising n (m / 2))) (map suc (single (m / 2 / 2 ^ n % 2) n))
    ∙ ap (λ (a : List ℕ). single (m % 2) 0 ++ a)
    (sym (map-append suc (rising n (m / 2)) (single (m / 2 / 2 ^ n % 2) n)) ∙ ap (map suc) (sym (rising-more n (m / 2))))

rising-even : (n m : ℕ) → m % 2 ≡ 0 → rising (suc n) m ≡ map suc (rising n (m / 2))
rising-even n m h = rising-low n m ∙ rw h

rising-odd : (n m : ℕ) → m % 2 ≡ 1 → rising (suc n) m ≡ 0 ∷ map suc (rising n (m / 2))
rising-odd n m h = rising-low n m ∙ rw h

-- bits spread over the qubits moved up by one
or-double : (a b : ℕ) → bit_or (a * 2) (b * 2) ≡ bit_or a b * 2
or-double a b =
    let x : a * 2 / 2 ≡ a = omega arith in
    let y : b * 2 / 2 ≡ b = omega arith in
    let u : a * 2 % 2 ≡ 0 = omega arith in
    let v : b * 2 % 2 ≡ 0 = omega arith in
    or_step (a * 2) (b * 2) ∙ rw (x, y, u, v) (omega arith)

spread-up : (l : List ℕ) (x : ℕ) → spread (map suc l) x ≡ spread l x * 2
spread-up [] x = rw (spread_none x)
spread-up (q ∷ l) x =
    let p : x % 2 * 2 ^ suc q ≡ x % 2 * 2 ^ q * 2 = rw (pow-suc 2 q) (sym (mul_assoc (x % 2) (2 ^ q) 2)) in
    spread-cons (suc q) (map suc l) x ∙ ap₂ bit_or p (spread-up l (x / 2)) ∙ or-double (x % 2 * 2 ^ q) (spread l (x / 2))
    ∙ ap (λ (y : ℕ). y * 2) (sym (spread-cons q l x))

spread-rising : (n m x : ℕ) → spread (rising n m) x ≡ submask_at n m x
spread-rising zero m x = rw (rising_none m, spread_none x, submask_at-zero)
spread-rising (suc n) m x =
    ⊎_elim
    (λ h. rw (rising-even n m h, spread-up (rising n (m / 2)) x, spread-rising n (m / 2) x, submask_at-even n m x h))
    (λ h.
    let l : x % 2 < 2 ^ 1 = omega arith in
    rw (rising-odd n m h, spread-cons 0 (map suc (rising n (m / 2))) x, spread-up (rising n (m / 2)) (x / 2), spread-rising n (m / 2) (x / 2), submask_at-odd n m x h, mul-one)
    (or_shifted_r (submask_at n (m / 2) (x / 2)) 1 (x % 2) l))
    (digit m)

rising-count : (n m : ℕ) → 2 ^ length (rising n m) ≡ submask_count n m
rising-count zero m = rw (rising_none m, submask_count-zero)
rising-count (suc n) m =
    ⊎_elim
    (λ h. rw (rising-even n m h, length-map (rising n (m / 2)) suc, rising-count n (m / 2), submask_count-even n m h))
    (λ h. rw (rising-odd n m h, length-map (rising n (m / 2)) suc, pow-suc 2 (length (rising n (m / 2))), rising-count n (m / 2), submask_count-odd n m h))
    (digit m)

-- ---- a qubit that the list names has a 1

keeps : (m : ℕ) (l : List ℕ) (q : ℕ) → m / 2 ^ q % 2 ≡ 1 → mask_from m l / 2 ^ q % 2 ≡ 1
unfolding mask_from
keeps m [] q h = h
keeps m (x ∷ l) q h = keeps (bit_or m (2 ^ x)) l q (or-digit-l m (2 ^ x) q h)

pub power-self : (q : ℕ) → 2 ^ q / 2 ^ q % 2 ≡ 1
power-self q = ap (λ (x : ℕ). x / 2 ^ q % 2) (sym (one-mul (2 ^ q))) ∙ ap (λ (x : ℕ). x % 2) (shl-shr 1 q)

pub there : (m : ℕ) (l : List ℕ) (q : ℕ) → stands q l ≡ true → mask_from m l / 2 ^ q % 2 ≡ 1
unfolding mask_from stands
there m [] q h = let z : ◌≡◌ {A = ℕ} 0 1 = cc in absurd (omega arith)
there m (x ∷ l) q h =
    elim (eqb x q) as (λ (b : Bool). eqb x q ≡ b → (b || stands q l) ≡ true → mask_from (bit_or m (2 ^ x)) l / 2 ^ q % 2 ≡ 1) [
      | true ↦ λ e g. keeps (bit_or m (2 ^ x)) l q (or-digit-r m (2 ^ x) q (rw (eqb-true x q e) (power-self q)))
      | false ↦ λ e g. there (bit_or m (2 ^ x)) l q g
    ] refl h

-- ---- the others are the qubits of their mask

other-digit : (n : ℕ) (l : List ℕ) → Listed n l → (q : ℕ) → q < n → unless (stands q l) q ≡ single (others n (named l) / 2 ^ q % 2) q
other-digit n l p q h =
    elim (stands q l) as (λ (b : Bool). stands q l ≡ b → unless b q ≡ single (others n (named l) / 2 ^ q % 2) q) [
      | true ↦ λ e. let d : others n (named l) / 2 ^ q % 2 ≡ 0 = omega (arith, others-digit n (named l) q (named-lt n l p) h, there 0 l q e) in rw d
      | false ↦ λ e. let d : others n (named l) / 2 ^ q % 2 ≡ 1 = omega (arith, others-digit n (named l) q (named-lt n l p) h, not_there 0 l q e (rw zero-div)) in rw d
    ] refl

others-upto : (n : ℕ) (l : List ℕ) → Listed n l → (k : ℕ) → k ≤ n → other_qubits k l ≡ rising k (others n (named l))
unfolding other_qubits rising
others-upto n l p zero h = refl
others-upto n l p (suc k) h = ap₂ (λ (a b : List ℕ). a ++ b) (others-upto n l p k (omega arith)) (other-digit n l p k (omega arith))

pub pow-same : (a b : ℕ) → 2 ^ a ≡ 2 ^ b → a ≡ b
pow-same a b e =
    ⊎_elim
    (λ (h : a ≤ b). ⊎_elim (λ (g : b ≤ a). omega arith) (λ (g : a < b). omega (arith, pow-lt g)) (le-or-lt b a))
    (λ (h : b < a). omega (arith, pow-lt h))
    (le-or-lt a b)

-- an index of the others is an index of the register
pub small-index : (n k e : ℕ) → n ≤ 12 → e < 2 ^ (n - k) → e < 4096
small-index n k e s h =
    let g : n - k ≤ 12 = omega arith in
    let q : 2 ^ (n - k) ≤ 4096 = pow_mono g in
    omega arith

module _ (n : ℕ) (l : List ℕ) (p : Listed n l) where
  others-rising : other_qubits n l ≡ rising n (others n (named l))
  others-rising = others-upto n l p n (omega arith)

  -- THE TRACED BASE OF e IS THE e-TH SUBMASK OF THE OTHERS' MASK
  pub traced-submask : (e : ℕ) → traced_base n l e ≡ submask_at n (others n (named l)) e
  traced-submask e = ap (λ (r : List ℕ). spread r e) others-rising ∙ spread-rising n (others n (named l)) e

  pub traced-lt : (e : ℕ) → traced_base n l e < 2 ^ n
  traced-lt e = rw (traced-submask e) (submask_at-lt n (others n (named l)) e)

  pub others-length : length (other_qubits n l) ≡ n - length l
  others-length =
      pow-same (length (other_qubits n l)) (n - length l)
      (ap (λ (r : List ℕ). 2 ^ length r) others-rising ∙ rising-count n (others n (named l)) ∙ others-count n l p)
