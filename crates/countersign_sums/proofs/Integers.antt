-- The sums carried to the integers: `value` takes plus, times, opposite and apart to the integers' sum, product,
-- negative and magnitude, and at_most to their order. Assumes nothing.
use mathlib.Core.Path.{◌≡◌, refl, sym, ap, ap₂, subst, ◌∙◌}
use mathlib.Core.Bool.{Bool, true, false, ◌&&◌}
use Prim.Native.Nat.{ℕ, zero, suc, ◌+◌, ◌-◌, ◌*◌, ◌≤◌, ◌<◌}
use native.Mathlib.Nat.{add-mul, mul_comm, mul-one, lt_of_not-le}
use native.Mathlib.Decide.{dec_le}
use native.Mathlib.Omega.{arith}
use lib.Dec.{leb}
use lib.IntN.{ℤ, pos, negsuc, neg_ℤ, ◌+ℤ◌, ◌-ℤ◌, ◌*ℤ◌, sub_ℕ, nat_abs}
use lib.Signed.{le_z}
use borrow.Author.Tests.{lt-ltb, le-ltb, le-leb, lt-leb, leb-true}
use Rattle.countersign_sums.specs.declared.Whole.{Whole}
use Rattle.countersign_sums.specs.declared.Gaussian.{Gaussian}
use Rattle.countersign_sums.specs.Wholes.{whole_of, plus_of, times_of, opposite_of, apart, at_most}
use Rattle.countersign_sums.specs.Gaussians.{sum_of, difference_of, product_of, by_whole, conjugate_of, both_within, times_within}
use Rattle.countersign_sums.specs.Integers.{value, values, Pair, plus_pair, minus_pair, times_pair, scale_pair, conjugate_pair}

-- ---- two whole numbers that stand for the same integer: what is over one and under the other is as much as the other way round

abbrev Same : Whole → Whole → Type 0
Same a b = a.over + b.under ≡ b.over + a.under

-- the difference of two numbers, by which is larger
sub-less : (a b : ℕ) → a < b → sub_ℕ a b ≡ negsuc (b - suc a)
sub-less a b h = rw (lt-ltb a b h)

sub_more : (a b : ℕ) → b ≤ a → sub_ℕ a b ≡ pos (a - b)
sub_more a b h = rw (le-ltb a b h)

-- of an integer the whole number that has 0 on one side
abbrev of : ℤ → Whole
of (pos n) = whole_of n 0
of (negsuc n) = whole_of 0 (suc n)

same-sub : (a b c d : ℕ) → a + d ≡ c + b → sub_ℕ a b ≡ sub_ℕ c d
same-sub a b c d e = go (dec_le b a)
  where
    go : Dec (b ≤ a) → sub_ℕ a b ≡ sub_ℕ c d
    go (yes h) = let f : a - b ≡ c - d = omega arith in sub_more a b h ∙ ap pos f ∙ sym (sub_more c d (omega arith))
    go (no h) =
        let l : a < b = omega arith in
        let f : b - suc a ≡ d - suc c = omega arith in
        sub-less a b l ∙ ap negsuc f ∙ sym (sub-less c d (omega arith))

pub value_same : (a b : Whole) → Same a b → value a ≡ value b
unfolding value
value_same a b e = same-sub a.over a.under b.over b.under e

value_of : (z : ℤ) → value (of z) ≡ z
unfolding value
value_of (pos n) = sub_more n 0 (omega arith) ∙ ap pos (omega arith)
value_of (negsuc n) = sub-less 0 (suc n) (omega arith) ∙ ap negsuc (omega arith)

same_of : (a : Whole) → Same a (of (value a))
unfolding value
same_of a = go (dec_le a.under a.over)
  where
    go : Dec (a.under ≤ a.over) → Same a (of (sub_ℕ a.over a.under))
    go (yes h) = subst (λ (z : ℤ). Same a (of z)) (sym (sub_more a.over a.under h)) (omega arith)
    go (no h) = subst (λ (z : ℤ). Same a (of z)) (sym (sub-less a.over a.under (omega arith))) (omega arith)

-- ---- the sum

of-plus : (x y : ℤ) → value (plus_of (of x) (of y)) ≡ x +ℤ y
unfolding value
of-plus (pos m) (pos n) = sub_more (m + n) (0 + 0) (omega arith) ∙ ap pos (omega arith)
of-plus (pos m) (negsuc n) = same-sub (m + 0) (0 + suc n) m (suc n) (omega arith)
of-plus (negsuc m) (pos n) = same-sub (0 + n) (suc m + 0) n (suc m) (omega arith)
of-plus (negsuc m) (negsuc n) = sub-less (0 + 0) (suc m + suc n) (omega arith) ∙ ap negsuc (omega arith)

pub value-plus : (a b : Whole) → value (plus_of a b) ≡ value a +ℤ value b
value-plus a b =
    value_same (plus_of a b) (plus_of (of (value a)) (of (value b))) (omega (arith, same_of a, same_of b))
    ∙ of-plus (value a) (value b)

-- ---- the negative

neg_is : (x : ℕ) → sub_ℕ 0 x ≡ neg_ℤ (pos x)
neg_is zero = refl
neg_is (suc x) = sub-less 0 (suc x) (omega arith) ∙ ap negsuc (omega arith)

of-opposite : (x : ℤ) → value (opposite_of (of x)) ≡ neg_ℤ x
unfolding value
of-opposite (pos n) = neg_is n
of-opposite (negsuc n) = sub_more (suc n) 0 (omega arith) ∙ ap pos (omega arith)

pub value-opposite : (a : Whole) → value (opposite_of a) ≡ neg_ℤ (value a)
value-opposite a =
    value_same (opposite_of a) (opposite_of (of (value a))) (omega (arith, same_of a))
    ∙ of-opposite (value a)

-- ---- the product

of-times : (x y : ℤ) → value (times_of (of x) (of y)) ≡ x *ℤ y
unfolding value
of-times (pos m) (pos n) = same-sub (m * n + 0 * 0) (m * 0 + 0 * n) (m * n) 0 (omega arith) ∙ sub_more (m * n) 0 (omega arith) ∙ ap pos (omega arith)
of-times (pos m) (negsuc n) = same-sub (m * 0 + 0 * suc n) (m * suc n + 0 * 0) 0 (m * suc n) (omega arith) ∙ neg_is (m * suc n)
of-times (negsuc m) (pos n) = same-sub (0 * n + suc m * 0) (0 * 0 + suc m * n) 0 (suc m * n) (omega arith) ∙ neg_is (suc m * n)
of-times (negsuc m) (negsuc n) = same-sub (0 * 0 + suc m * suc n) (0 * suc n + suc m * 0) (suc m * suc n) 0 (omega arith) ∙ sub_more (suc m * suc n) 0 (omega arith) ∙ ap pos (omega arith)

-- a sum of two products, by one factor that both share
factor : (a d b c x : ℕ) → a + d ≡ b + c → a * x + d * x ≡ b * x + c * x
factor a d b c x e = sym (add-mul a d x) ∙ ap (λ (y : ℕ). y * x) e ∙ add-mul b c x

times-same : (a c b : Whole) → Same a c → Same (times_of a b) (times_of c b)
times-same a c b e =
    let p = factor a.over c.under c.over a.under b.over e in
    let q = factor a.over c.under c.over a.under b.under e in
    omega (arith, p, q)

times-swap : (a b : Whole) → Same (times_of a b) (times_of b a)
times-swap a b =
    let p = mul_comm a.over b.over in
    let q = mul_comm a.under b.under in
    let r = mul_comm a.over b.under in
    let s = mul_comm a.under b.over in
    omega (arith, p, q, r, s)

pub value-times : (a b : Whole) → value (times_of a b) ≡ value a *ℤ value b
value-times a b =
    value_same (times_of a b) (times_of (of (value a)) b) (times-same a (of (value a)) b (same_of a))
    ∙ value_same (times_of (of (value a)) b) (times_of b (of (value a))) (times-swap (of (value a)) b)
    ∙ value_same (times_of b (of (value a))) (times_of (of (value b)) (of (value a))) (times-same b (of (value b)) (of (value a)) (same_of b))
    ∙ value_same (times_of (of (value b)) (of (value a))) (times_of (of (value a)) (of (value b))) (times-swap (of (value b)) (of (value a)))
    ∙ of-times (value a) (value b)

-- ---- how far from 0, and the order

pub apart-is : (a : Whole) → apart a ≡ nat_abs (value a)
unfolding value
apart-is a = go (dec_le a.under a.over)
  where
    go : Dec (a.under ≤ a.over) → apart a ≡ nat_abs (sub_ℕ a.over a.under)
    go (yes h) = omega (arith, ap nat_abs (sub_more a.over a.under h))
    go (no h) = let l : a.over < a.under = omega arith in omega (arith, ap nat_abs (sub-less a.over a.under l))

same_test : (x y z w : ℕ) → (x ≤ y → z ≤ w) → (z ≤ w → x ≤ y) → leb x y ≡ leb z w
same_test x y z w f g = go (dec_le x y)
  where
    go : Dec (x ≤ y) → leb x y ≡ leb z w
    go (yes h) = le-leb x y h ∙ sym (le-leb z w (f h))
    go (no h) = lt-leb x y (omega arith) ∙ sym (lt-leb z w (lt_of_not-le (λ l. h (g l))))

of-at-most : (x y : ℤ) → at_most (of x) (of y) ≡ le_z x y
of-at-most (pos m) (pos n) = same_test (m + 0) (n + 0) m n (λ h. omega arith) (λ h. omega arith)
of-at-most (pos m) (negsuc n) = lt-leb (m + suc n) (0 + 0) (omega arith)
of-at-most (negsuc m) (pos n) = le-leb (0 + 0) (n + suc m) (omega arith)
of-at-most (negsuc m) (negsuc n) = same_test (0 + suc n) (0 + suc m) n m (λ h. omega arith) (λ h. omega arith)

pub at-most-is : (a b : Whole) → at_most a b ≡ le_z (value a) (value b)
at-most-is a b =
    let p = same_of a in
    let q = same_of b in
    let x = of (value a) in
    let y = of (value b) in
    same_test (a.over + b.under) (b.over + a.under) (x.over + y.under) (y.over + x.under) (λ h. omega (arith, p, q, h)) (λ h. omega (arith, p, q, h))
    ∙ of-at-most (value a) (value b)

-- ---- complex numbers

pub values-sum : (a b : Gaussian) → values (sum_of a b) ≡ plus_pair (values a) (values b)
unfolding values sum_of
values-sum a b = ap₂ (λ (x y : ℤ). (x, y)) (value-plus a.re b.re) (value-plus a.im b.im)

minus_is : (a b : Whole) → value (plus_of a (opposite_of b)) ≡ value a -ℤ value b
minus_is a b = value-plus a (opposite_of b) ∙ ap (λ (x : ℤ). value a +ℤ x) (value-opposite b)

pub values-difference : (a b : Gaussian) → values (difference_of a b) ≡ minus_pair (values a) (values b)
unfolding values difference_of
values-difference a b = ap₂ (λ (x y : ℤ). (x, y)) (minus_is a.re b.re) (minus_is a.im b.im)

pub values-product : (a b : Gaussian) → values (product_of a b) ≡ times_pair (values a) (values b)
unfolding values product_of
values-product a b =
    ap₂ (λ (x y : ℤ). (x, y))
    (minus_is (times_of a.re b.re) (times_of a.im b.im) ∙ ap₂ (λ (x y : ℤ). x -ℤ y) (value-times a.re b.re) (value-times a.im b.im))
    (value-plus (times_of a.re b.im) (times_of a.im b.re) ∙ ap₂ (λ (x y : ℤ). x +ℤ y) (value-times a.re b.im) (value-times a.im b.re))

pub values-by : (a : Gaussian) (w : Whole) → values (by_whole a w) ≡ scale_pair (values a) (value w)
unfolding values by_whole
values-by a w = ap₂ (λ (x y : ℤ). (x, y)) (value-times a.re w) (value-times a.im w)

pub values-conjugate : (a : Gaussian) → values (conjugate_of a) ≡ conjugate_pair (values a)
unfolding values conjugate_of
values-conjugate a = ap (λ (y : ℤ). (value a.re, y)) (value-opposite a.im)

-- ---- what is not negative, and the limits

pub value_pos : (n : ℕ) → value (whole_of n 0) ≡ pos n
value_pos n = value_of (pos n)

and_left : (a b : Bool) → (a && b) ≡ true → a ≡ true
and_left true b e = refl
and_left false b e = e

and_right : (a b : Bool) → (a && b) ≡ true → b ≡ true
and_right true b e = e
and_right false b e = cc

-- each part, times k, is at most t in magnitude
abbrev Near : Pair → ℕ → ℕ → Type 0
Near z k t = (nat_abs z.0 * k ≤ t) × (nat_abs z.1 * k ≤ t)

pub near-of-times : (a : Gaussian) (k t : ℕ) → times_within a k t ≡ true → Near (values a) k t
unfolding times_within values
near-of-times a k t e = (
  subst (λ (x : ℕ). x * k ≤ t) (apart-is a.re) (leb-true (apart a.re * k) t (and_left (leb (apart a.re * k) t) (leb (apart a.im * k) t) e)),
  subst (λ (x : ℕ). x * k ≤ t) (apart-is a.im) (leb-true (apart a.im * k) t (and_right (leb (apart a.re * k) t) (leb (apart a.im * k) t) e)),
)

pub times-of-near : (a : Gaussian) (k t : ℕ) → Near (values a) k t → times_within a k t ≡ true
unfolding times_within values
times-of-near a k t h =
    ap₂ (λ (x y : Bool). x && y)
    (le-leb (apart a.re * k) t (subst (λ (x : ℕ). x * k ≤ t) (sym (apart-is a.re)) h.0))
    (le-leb (apart a.im * k) t (subst (λ (x : ℕ). x * k ≤ t) (sym (apart-is a.im)) h.1))

pub once : (a : Gaussian) (t : ℕ) → both_within a t ≡ times_within a 1 t
unfolding times_within both_within
once a t = ap₂ (λ (x y : ℕ). leb x t && leb y t) (sym (mul-one (apart a.re))) (sym (mul-one (apart a.im)))
