-- The total order on floats is one: no float is less than itself, and less than a lesser is less. NaN, both zeros and both infinities
-- included. Assumes nothing.
use mathlib.Core.Path.{◌≡◌, refl, sym, ◌∙◌}
use mathlib.Core.Bool.{Bool, true, false, not, ◌&&◌, ◌||◌, beq, true≢false, false≢true}
use mathlib.Core.Logic.{◌⊎◌, inl, inr, ⊎_elim}
use Prim.Native.Nat.{ℕ, ◌+◌, ◌*◌}
use native.Mathlib.Omega.{arith}
use lib.Dec.{eqb}
use borrow.Author.Tests.{le-ltb, eqb-true}
use lib.Ieee.{Float, nan, inf, fin, up, down, lt, eq, is_nan, below, level}
use Rattle.numbers.specs.Numbers.{minus_sign, total_less}
use Rattle.stable_order.proofs.Comparing.{lt-asym, lt-under}

-- ---- yes and no

or-out : (p q : Bool) → p || q ≡ true → (p ≡ true) ⊎ (q ≡ true)
or-out true q h = inl refl
or-out false q h = inr h

or_left : (p q : Bool) → p ≡ true → p || q ≡ true
or_left true q h = refl
or_left false q h = absurd (false≢true h)

and_left : (p q : Bool) → p && q ≡ true → p ≡ true
and_left true q h = refl
and_left false q h = h

and_right : (p q : Bool) → p && q ≡ true → q ≡ true
and_right true q h = h
and_right false q h = absurd (false≢true h)

not-both : (p : Bool) → p ≡ true → not p ≡ true → ⊥
not-both true h k = false≢true k
not-both false h k = false≢true h

is_false : (p : Bool) → (p ≡ true → ⊥) → p ≡ false
is_false true h = absurd (h refl)
is_false false h = refl

-- ---- equal floats are not apart

level-below : (s : Bool) (a : ℕ) (t : Bool) (b : ℕ) → level s a t b ≡ true → (below s a t b ≡ false) × (below t b s a ≡ false)
level-below s a t b h = pick s t (eqb-true a b (and_left (eqb a b) (beq s t || eqb a 0) h)) (and_right (eqb a b) (beq s t || eqb a 0) h)
  where
    pick : (s t : Bool) → a ≡ b → beq s t || eqb a 0 ≡ true → (below s a t b ≡ false) × (below t b s a ≡ false)
    pick false false e k = (le-ltb a b (omega arith), le-ltb b a (omega arith))
    pick true true e k = (le-ltb b a (omega arith), le-ltb a b (omega arith))
    pick true false e k = let z : a ≡ 0 = eqb-true a 0 k in (le-ltb 0 (a + b) (omega arith), refl)
    pick false true e k = let z : a ≡ 0 = eqb-true a 0 k in (refl, le-ltb 0 (b + a) (omega arith))

eq-apart : (x y : Float) → eq x y ≡ true → (lt x y ≡ false) × (lt y x ≡ false)
unfolding eq lt
eq-apart nan y h = absurd (false≢true h)
eq-apart (inf s) nan h = absurd (false≢true h)
eq-apart (inf true) (inf true) h = (refl, refl)
eq-apart (inf true) (inf false) h = absurd (false≢true h)
eq-apart (inf false) (inf true) h = absurd (false≢true h)
eq-apart (inf false) (inf false) h = (refl, refl)
eq-apart (inf s) (fin t n d) h = absurd (false≢true h)
eq-apart (fin s m e) nan h = absurd (false≢true h)
eq-apart (fin s m e) (inf t) h = absurd (false≢true h)
eq-apart (fin s m e) (fin t n d) h = level-below s (m * up e * down d) t (n * up d * down e) h

-- a float that is less or equal is no NaN
lt-number : (x y : Float) → lt x y ≡ true → is_nan x ≡ false
unfolding lt is_nan
lt-number nan y h = absurd (false≢true h)
lt-number (inf s) y h = refl
lt-number (fin s m e) y h = refl

eq_number : (x y : Float) → eq x y ≡ true → is_nan x ≡ false
unfolding eq is_nan
eq_number nan y h = absurd (false≢true h)
eq_number (inf s) y h = refl
eq_number (fin s m e) y h = refl

-- ---- less than a lesser

lt_trans : (x y z : Float) → lt x y ≡ true → lt y z ≡ true → lt x z ≡ true
lt_trans x y z h k = lt-under y z x k (lt-asym x y h) (lt-number x y h)

eq-lt : (x y z : Float) → eq x y ≡ true → lt y z ≡ true → lt x z ≡ true
eq-lt x y z h k = lt-under y z x k (eq-apart x y h).1 (eq_number x y h)

lt-eq : (x y z : Float) → is_nan z ≡ false → lt x y ≡ true → eq y z ≡ true → lt x z ≡ true
lt-eq x y z n h k = pick (lt x z) refl
  where
    pick : (b : Bool) → lt x z ≡ b → lt x z ≡ true
    pick true e = e
    pick false e = absurd (true≢false (sym (lt-under x y z h e n) ∙ (eq-apart y z k).1))

-- less, or equal and of the lesser sign
abbrev under : Float → Float → Bool
under x y = lt x y || (eq x y && (minus_sign x && not (minus_sign y)))

under-trans : (x y z : Float) → is_nan z ≡ false → under x y ≡ true → under y z ≡ true → under x z ≡ true
under-trans x y z n h k = ⊎_elim (first (or-out (lt y z) _ k)) (second (or-out (lt y z) _ k)) (or-out (lt x y) _ h)
  where
    first : (lt y z ≡ true) ⊎ (eq y z && (minus_sign y && not (minus_sign z)) ≡ true) → lt x y ≡ true → under x z ≡ true
    first (inl b) a = or_left (lt x z) _ (lt_trans x y z a b)
    first (inr b) a = or_left (lt x z) _ (lt-eq x y z n a (and_left (eq y z) _ b))

    second : (lt y z ≡ true) ⊎ (eq y z && (minus_sign y && not (minus_sign z)) ≡ true) → eq x y && (minus_sign x && not (minus_sign y)) ≡ true → under x z ≡ true
    second (inl b) a = or_left (lt x z) _ (eq-lt x y z (and_left (eq x y) _ a) b)
    second (inr b) a =
        absurd
        (not-both (minus_sign y) (and_left (minus_sign y) _ (and_right (eq y z) _ b)) (and_right (minus_sign x) (not (minus_sign y)) (and_right (eq x y) _ a)))

under-number : (x y : Float) → under x y ≡ true → is_nan x ≡ false
under-number x y h =
    ⊎_elim (λ (a : lt x y ≡ true). lt-number x y a) (λ (a : eq x y && (minus_sign x && not (minus_sign y)) ≡ true). eq_number x y (and_left (eq x y) _ a)) (or-out (lt x y) _ h)

not-true : (p : Bool) → p ≡ false → not p ≡ true
not-true true h = absurd (true≢false h)
not-true false h = refl

pub less-trans : (x y z : Float) → total_less x y ≡ true → total_less y z ≡ true → total_less x z ≡ true
unfolding total_less is_nan
less-trans x nan nan h k = absurd (false≢true k)
less-trans x nan (inf t) h k = absurd (false≢true (sym (under-number nan (inf t) k)))
less-trans x nan (fin t n d) h k = absurd (false≢true (sym (under-number nan (fin t n d) k)))
less-trans x (inf s) nan h k = not-true (is_nan x) (under-number x (inf s) h)
less-trans x (fin s m e) nan h k = not-true (is_nan x) (under-number x (fin s m e) h)
less-trans x (inf s) (inf t) h k = under-trans x (inf s) (inf t) refl h k
less-trans x (inf s) (fin t n d) h k = under-trans x (inf s) (fin t n d) refl h k
less-trans x (fin s m e) (inf t) h k = under-trans x (fin s m e) (inf t) refl h k
less-trans x (fin s m e) (fin t n d) h k = under-trans x (fin s m e) (fin t n d) refl h k

-- ---- not less than itself

under-self : (x : Float) → under x x ≡ true → ⊥
under-self x h = ⊎_elim (λ (a : lt x x ≡ true). true≢false (sym a ∙ lt-asym x x a)) other (or-out (lt x x) _ h)
  where
    other : eq x x && (minus_sign x && not (minus_sign x)) ≡ true → ⊥
    other a =
        let b = and_right (eq x x) _ a in
        not-both (minus_sign x) (and_left (minus_sign x) _ b) (and_right (minus_sign x) (not (minus_sign x)) b)

less-self : (x : Float) → total_less x x ≡ true → ⊥
unfolding total_less is_nan
less-self nan h = false≢true h
less-self (inf s) h = under-self (inf s) h
less-self (fin s m e) h = under-self (fin s m e) h

-- of two, at most one is less
pub less-asym : (x y : Float) → total_less x y ≡ true → total_less y x ≡ false
less-asym x y h = is_false (total_less y x) (λ k. less-self x (less-trans x y x h k))

-- x is greater than y, and z is not: x is greater than z
pub less-over : (x y z : Float) → total_less y x ≡ true → total_less y z ≡ false → total_less x z ≡ false
less-over x y z h k = is_false (total_less x z) (λ g. true≢false (sym (less-trans y x z h g) ∙ k))
