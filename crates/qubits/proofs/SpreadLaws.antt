-- Laws of `spread`: a list in two parts, the bound, one bit more, and that spreading over the qubits of a mask, rising, gives the
-- mask's submasks in rising order. Assumes nothing.
use mathlib.Core.Path.{◌≡◌, refl, ap, ◌∙◌}
use mathlib.Core.Logic.{⊎_elim}
use mathlib.Core.Bool.{Bool, true, false}
use mathlib.Core.List.{List, [], ◌∷◌, ◌++◌, append-nil}
use Prim.Native.Nat.{ℕ, zero, suc, ◌+◌, ◌*◌, ◌/◌, ◌%◌, ◌^◌, ◌≤◌, ◌<◌}
use native.Mathlib.Nat.{zero-mul, one-mul, pow-suc, add-mul, mul_assoc, mul_comm, div-eq_of_lt, mod-eq_of_lt}
use native.Mathlib.Numerals.{add-one}
use native.Mathlib.Omega.{arith}
use lib.Bits.{bit_and, bit_or, and_mask, or_zero_l, or_zero_r, or_lt, or_shifted_r}
use lib.Pow.{pow_pos, pow-lt, pow_mono, shr-shr, shr_le, high, low}
use lib.Arith.{digits_lt}
use lib.ListN.{length, get_or, drop, length-append, drop_of_length-le}
use lib.Seq.{drop-cons}
use Rattle.submasks.proofs.SubmaskLaws.{digit, shr-suc}
use Rattle.submasks.proofs.BitLaws.{or_assoc}
use Rattle.qubits.specs.Lists.{stands}
use Rattle.qubits.specs.Spread.{spread, unless, other_qubits, insert_zero_bit}

-- ---- one turn of the loop that spreads

pub spread_none : (x : ℕ) → spread [] x ≡ 0
unfolding spread
spread_none x = refl

pub spread-cons : (q : ℕ) (l : List ℕ) (x : ℕ) → spread (q ∷ l) x ≡ bit_or (x % 2 * 2 ^ q) (spread l (x / 2))
unfolding spread
spread-cons q l x = refl

-- what is left of the list, and of x
pub spread-step : (l : List ℕ) (i off x : ℕ) → i < length l
    → bit_or off (spread (drop i l) (x / 2 ^ i)) ≡ bit_or (bit_or off (x / 2 ^ i % 2 * 2 ^ get_or l i 0)) (spread (drop (i + 1) l) (x / 2 ^ (i + 1)))
spread-step l i off x h =
    rw (drop-cons l i 0, add-one, spread-cons (get_or l i 0) (drop (suc i) l) (x / 2 ^ i), or_assoc, shr-shr x i 1, add-one)

pub offset-end : (l : List ℕ) (i off x : ℕ) → length l ≤ i → bit_or off (spread (drop i l) x) ≡ off
offset-end l i off x h = rw (drop_of_length-le l h, spread_none x, or_zero_r)

-- ---- a list in two parts

pub spread-append : (a b : List ℕ) (x : ℕ) → spread (a ++ b) x ≡ bit_or (spread a x) (spread b (x / 2 ^ length a))
spread-append [] b x = let h : x / 1 ≡ x = omega arith in rw (spread_none x, or_zero_l, h)
spread-append (q ∷ a) b x =
    rw (spread-cons q (a ++ b) x, spread-cons q a x, spread-append a b (x / 2), or_assoc, shr-suc x (length a))

-- one bit alone, below 2 ^ n
pub bit-lt : (n q d : ℕ) → q < n → d % 2 * 2 ^ q < 2 ^ n
bit-lt n q d h =
    ⊎_elim (λ (e : d % 2 ≡ 0). rw (e, zero-mul) (pow_pos n)) (λ (e : d % 2 ≡ 1). rw (e, one-mul) (pow-lt h)) (digit d)

-- how `row_offset` computes one bit, in 64 bits
pub bit-code : (x q : ℕ) → q < 64 → bit_and x 1 * 2 ^ q % 2 ^ 64 ≡ x % 2 * 2 ^ q
bit-code x q h = let e : bit_and x 1 ≡ x % 2 = and_mask x 1 in rw e (mod-eq_of_lt (bit-lt 64 q x h))

pub spread-lt : (n : ℕ) (l : List ℕ) (x : ℕ) → ((k : ℕ) → k < length l → get_or l k 0 < n) → spread l x < 2 ^ n
unfolding spread
spread-lt n [] x h = pow_pos n
spread-lt n (q ∷ l) x h =
    or_lt n (x % 2 * 2 ^ q) (spread l (x / 2)) (bit-lt n q x (h 0 (omega arith))) (spread-lt n l (x / 2) (λ k g. h (suc k) (omega arith)))

-- ---- the other qubits, one qubit at a time

pub other_none : (l : List ℕ) → other_qubits 0 l ≡ []
unfolding other_qubits
other_none l = refl

pub other-named : (q : ℕ) (l : List ℕ) → stands q l ≡ true → other_qubits (q + 1) l ≡ other_qubits q l
unfolding other_qubits
other-named q l h = rw (add-one, h, append-nil)

pub other-more : (q : ℕ) (l : List ℕ) → stands q l ≡ false → other_qubits (q + 1) l ≡ other_qubits q l ++ q ∷ []
unfolding other_qubits
other-more q l h = rw (add-one, h)

unless-lt : (b : Bool) (q x : ℕ) → spread (unless b q) x < 2 ^ suc q
unfolding spread
unless-lt true q x = pow_pos (suc q)
unless-lt false q x = rw or_zero_r (bit-lt (suc q) q x (omega arith))

-- the bits spread over the other qubits below q
pub other-lt : (q : ℕ) (l : List ℕ) (x : ℕ) → spread (other_qubits q l) x < 2 ^ q
unfolding other_qubits spread
other-lt zero l x = omega arith
other-lt (suc q) l x =
    let h : spread (other_qubits q l) x < 2 ^ suc q = omega (arith, other-lt q l x, pow-suc 2 q) in
    rw (spread-append (other_qubits q l) (unless (stands q l) q) x)
    (or_lt (suc q) (spread (other_qubits q l) x) (spread (unless (stands q l) q) (x / 2 ^ length (other_qubits q l))) h
    (unless-lt (stands q l) q (x / 2 ^ length (other_qubits q l))))

-- one qubit more: the next bit of x lands on it
pub spread-snoc : (q : ℕ) (a : List ℕ) (x : ℕ) → spread a x < 2 ^ q → spread (a ++ q ∷ []) x ≡ x / 2 ^ length a % 2 * 2 ^ q + spread a x
spread-snoc q a x h =
    rw (spread-append a (q ∷ []) x, spread-cons q [] (x / 2 ^ length a), spread_none (x / 2 ^ length a / 2), or_zero_r)
    (or_shifted_r (x / 2 ^ length a % 2) q (spread a x) h)

-- ---- a zero bit inserted

-- the law by which callers know it: what lies below q stays, and what lies above moves up one
pub insert-zero : (up down q : ℕ) → down < 2 ^ q → insert_zero_bit (up * 2 ^ q + down) q ≡ up * 2 ^ suc q + down
unfolding insert_zero_bit
insert-zero up down q h = rw (high up q h, low up q h)

-- how `insert_zero_bit` computes it
pub insert-code : (x q b : ℕ) → b ≡ 2 ^ q → x / b * (2 * b) + x % b ≡ insert_zero_bit x q
unfolding insert_zero_bit
insert-code x q b e =
    let p : 2 ^ suc q ≡ 2 * 2 ^ q = pow-suc 2 q ∙ mul_comm (2 ^ q) 2 in
    rw (e, p)

-- ---- the loop that inserts a zero bit at each listed qubit, rising: at q, the other qubits below q have their bits of e

pub record Inserted (n : ℕ) (l : List ℕ) (e base q : ℕ) : Type 0 where
  pub more : q ≤ n
  pub base-is : base ≡ e / 2 ^ length (other_qubits q l) * 2 ^ q + spread (other_qubits q l) e

halves : (x p : ℕ) → x * p ≡ x / 2 * (p * 2) + x % 2 * p
halves x p =
    let h : x ≡ x / 2 * 2 + x % 2 = omega arith in
    ap (λ (y : ℕ). y * p) h ∙ add-mul (x / 2 * 2) (x % 2) p
    ∙ ap (λ (y : ℕ). y + x % 2 * p) (mul_assoc (x / 2) 2 p ∙ ap (λ (y : ℕ). x / 2 * y) (mul_comm 2 p))

module _ (n : ℕ) (l : List ℕ) (e : ℕ) where
  pub insert-begin : Inserted n l e e 0
  unfolding other_qubits spread
  insert-begin = record { more = omega arith; base-is = omega arith }

  pub insert-step : (base q : ℕ) → Inserted n l e base q → q < n → stands q l ≡ true → Inserted n l e (insert_zero_bit base q) (q + 1)
  insert-step base q i h t = record {
    more = omega arith;
    base-is = rw (i.base-is, other-named q l t, add-one) (insert-zero (e / 2 ^ length (other_qubits q l)) (spread (other_qubits q l) e) q (other-lt q l e));
  }

  pub insert-past : (base q : ℕ) → Inserted n l e base q → q < n → stands q l ≡ false → Inserted n l e base (q + 1)
  insert-past base q i h t =
      let O = other_qubits q l in
      let E = e / 2 ^ length O in
      let g : length (O ++ q ∷ []) ≡ length O + 1 = length-append O (q ∷ []) in
      let p : 2 ^ suc q ≡ 2 ^ q * 2 = pow-suc 2 q in
      record {
        more = omega arith;
        base-is =
            i.base-is
            ∙ rw (other-more q l t, g, ← shr-shr e (length O) 1, spread-snoc q O e (other-lt q l e), add-one, p)
            (omega (arith, halves E (2 ^ q)));
      }

  -- below the last: nothing of e is left over
  pub insert-end : (base q : ℕ) → Inserted n l e base q → n ≤ q → e < 2 ^ length (other_qubits n l) → base ≡ spread (other_qubits n l) e
  insert-end base q i h lt =
      let g : q ≡ n = omega (arith, i.more) in
      let z : e / 2 ^ length (other_qubits n l) ≡ 0 = div-eq_of_lt lt in
      i.base-is ∙ rw (g, z, zero-mul) (omega arith)

  -- what `insert_zero_bit` asks
  pub insert-room : (base q : ℕ) → Inserted n l e base q → q < n → n ≤ 12 → e < 4096 → base < 2 ^ 32
  insert-room base q i h small lt =
      let d : e / 2 ^ length (other_qubits q l) < 4096 = omega (arith, shr_le e (length (other_qubits q l))) in
      let b : base < 4096 * 2 ^ q = rw i.base-is (digits_lt d (other-lt q l e)) in
      let k : q ≤ 12 = omega arith in
      let p : 2 ^ q ≤ 4096 = pow_mono k in
      omega arith
