-- What a reader may want to know of this crate's definitions and calls. Assumes nothing.
use mathlib.Core.Path.{◌≡◌, refl, sym, ap, ◌∙◌}
use mathlib.Core.Bool.{Bool, true, false, cond, true≢false}
use mathlib.Core.Logic.{inl, inr, ⊎_elim}
use mathlib.Core.List.{List, [], ◌∷◌}
use Prim.Native.Nat.{ℕ, zero, suc, ◌+◌, ◌≤◌, ◌<◌}
use native.Mathlib.Omega.{arith}
use lib.Dec.{eqb, ltb}
use borrow.Author.Tests.{lt-ltb, le-ltb, ltb-true, ltb-false, eqb-true, eq-eqb}
use lib.ListN.{get_or}
use lib.Ieee.{Float, nan, lt}
use Rattle.stable_order.specs.Places.{Below}
use Rattle.stable_order.specs.Order.{inserted, order_to}
use Rattle.stable_order.proofs.OrderLaws.{order_below}
use Rattle.stable_order.proofs.Comparing.{lt-asym, lt-under}
use Rattle.stable_order.specs.Stable.{times, Before, BeforeAll, Falling, NoNan}

apart : (i k : ℕ) → k ≤ i → (i ≡ k → ⊥) → suc k ≤ i
apart i k h n = omega arith

times_none : (i : ℕ) → times i [] ≡ 0
unfolding times
times_none i = refl

times-inserted : (values : List Float) (i x : ℕ) (l : List ℕ) → times i (inserted values x l) ≡ cond (eqb i x) 1 0 + times i l
unfolding times inserted
times-inserted values i x [] = refl
times-inserted values i x (y ∷ l) = pick (lt (get_or values y nan) (get_or values x nan)) (times-inserted values i x l)
  where
    pick : (t : Bool) → times i (inserted values x l) ≡ cond (eqb i x) 1 0 + times i l
        → times i (cond t (x ∷ y ∷ l) (y ∷ inserted values x l)) ≡ cond (eqb i x) 1 0 + (cond (eqb i y) 1 0 + times i l)
    pick true h = refl
    pick false h = omega arith

-- Each place below k stands in the order of k values once, and no other place does
pub order-once : (values : List Float) (i k : ℕ) → times i (order_to values k) ≡ cond (ltb i k) 1 0
unfolding order_to
order-once values i zero =
    let h : 0 ≤ i = omega arith in
    rw (le-ltb i 0 h) (times_none i)
order-once values i (suc k) = times-inserted values i k (order_to values k) ∙ ap (λ (n : ℕ). cond (eqb i k) 1 0 + n) (order-once values i k) ∙ step (eqb i k) refl
  where
    step : (b : Bool) → eqb i k ≡ b → cond b 1 0 + cond (ltb i k) 1 0 ≡ cond (ltb i (suc k)) 1 0
    step true e =
        let h : i ≡ k = eqb-true i k e in
        let l : k ≤ i = omega arith in
        let m : i < suc k = omega arith in
        rw (le-ltb i k l, lt-ltb i (suc k) m)
    step false e = other (ltb i k) refl
      where
        other : (b : Bool) → ltb i k ≡ b → 0 + cond b 1 0 ≡ cond (ltb i (suc k)) 1 0
        other true l =
            let h : i < k = ltb-true i k l in
            let m : i < suc k = omega arith in
            rw (lt-ltb i (suc k) m)
        other false l =
            let h : k ≤ i = ltb-false i k l in
            let n : (i ≡ k → ⊥) = λ q. true≢false (sym (eq-eqb i k q) ∙ e) in
            let m : suc k ≤ i = apart i k h n in
            rw (le-ltb i (suc k) m)

module _ (values : List Float) where
  -- x's value is greater than y's: x may stand before y, and before all that y may stand before
  over : (k x y : ℕ) (l : List ℕ) → NoNan values k → Below k l → lt (get_or values y nan) (get_or values x nan) ≡ true → BeforeAll values y l → BeforeAll values x l
  over k x y [] nn b h a = tt
  over k x y (z ∷ l) nn b h a = (
    inl
        (lt-under (get_or values y nan) (get_or values x nan) (get_or values z nan) h
        (⊎_elim
        (λ (g : lt (get_or values z nan) (get_or values y nan) ≡ true). lt-asym (get_or values z nan) (get_or values y nan) g)
        (λ (g : (lt (get_or values y nan) (get_or values z nan) ≡ false) × (y < z)). g.0)
        a.0)
        (nn z b.0)),
    over k x y l nn b.1 h a.1,
  )

  -- y stands before all of a list and before x, and so before all of the list with x in it
  under : (x y : ℕ) (l : List ℕ) → Before values y x → BeforeAll values y l → BeforeAll values y (inserted values x l)
  unfolding inserted
  under x y [] h a = (h, tt)
  under x y (z ∷ l) h a = pick (lt (get_or values z nan) (get_or values x nan)) (under x y l h a.1)
    where
      pick : (t : Bool) → BeforeAll values y (inserted values x l) → BeforeAll values y (cond t (x ∷ z ∷ l) (z ∷ inserted values x l))
      pick true r = (h, a)
      pick false r = (a.0, r)

  falling-inserted : (x : ℕ) (l : List ℕ) → NoNan values x → Below x l → Falling values l → Falling values (inserted values x l)
  unfolding inserted
  falling-inserted x [] nn b f = (tt, tt)
  falling-inserted x (y ∷ l) nn b f = pick (lt (get_or values y nan) (get_or values x nan)) refl (falling-inserted x l nn b.1 f.1)
    where
      pick : (t : Bool) → lt (get_or values y nan) (get_or values x nan) ≡ t → Falling values (inserted values x l)
          → Falling values (cond t (x ∷ y ∷ l) (y ∷ inserted values x l))
      pick true h r = ((inl h, over x x y l nn b.1 h f.0), f)
      pick false h r = (under x y l (inr (h, b.0)) f.0, r)

  pub order-falls : (k : ℕ) → NoNan values k → Falling values (order_to values k)
  unfolding order_to
  order-falls zero nn = tt
  order-falls (suc k) nn =
      let n : NoNan values k = λ i h. nn i (omega arith) in
      falling-inserted k (order_to values k) n (order_below values k) (order-falls k n)
