-- Complex numbers that are alike but for the signs of zeros, and the arithmetic on them. Assumes nothing.
use mathlib.Core.Path.{◌≡◌, refl, sym, ap, ap₂, ◌∙◌}
use mathlib.Core.Bool.{Bool, true, false, ◌&&◌, cond}
use Prim.Native.Nat.{ℕ, zero, suc, ◌*◌, ◌^◌, max}
use lib.Dec.{eqb}
use lib.Ieee.{Float, nan, inf, fin, binary64, up, down, round, neg, add, sub, mul}
use lib.Ieee.Fits.{mul-fits}
use Rattle.numbers.specs.Numbers.{is_finite}
use Rattle.numbers.specs.Root.{units_of, sqrt_of}
use Rattle.signs.proofs.Signs.{neg-neg, mul-neg, neg-mul, round-neg}
use Rattle.complex.specs.declared.Complex.{Complex}
use Rattle.complex.specs.Arithmetic.{product, sum_of, difference, negation, conjugate, times_real, quotient, norm_sqr}
use Rattle.complex.specs.Zeros.{zero_float}
use Rattle.modulus.specs.Modulus.{leading, over, back, root_of_squares, scaled_by, scaled_modulus, modulus_of}
use Rattle.zero_signs.proofs.Bare.{bare, is_zero, like-finite, like-neg, like-mul, like-add, like-sub, like-div, like-square, add-zero, zero-times, minus-zero-times, neg-zero, mul-finite, add-finite, sub-finite}

-- a and b are alike but for the signs of zeros
pub record Like (a b : Complex) : Type 0 where
  pub re : bare a.re ≡ bare b.re
  pub im : bare a.im ≡ bare b.im

-- both parts are finite
pub record FiniteCell (a : Complex) : Type 0 where
  pub re : is_finite a.re ≡ true
  pub im : is_finite a.im ≡ true

-- every number is like itself
pub like-self : (a : Complex) → Like a a
like-self a = record { re = refl; im = refl }

-- the other way round
pub like-sym : {a b : Complex} → Like a b → Like b a
like-sym h = record { re = sym h.re; im = sym h.im }

-- and by way of a third
pub like-trans : {a b c : Complex} → Like a b → Like b c → Like a c
like-trans h g = record { re = h.re ∙ g.re; im = h.im ∙ g.im }

-- one that is like a finite one is finite
pub like-finite-cell : {a b : Complex} → Like a b → FiniteCell a → FiniteCell b
like-finite-cell {a} {b} h f = record { re = sym (like-finite a.re b.re h.re) ∙ f.re; im = sym (like-finite a.im b.im h.im) ∙ f.im }

-- ---- the arithmetic

-- products of alike factors are alike
pub like-product : {a a' b b' : Complex} → Like a a' → Like b b' → Like (product a b) (product a' b')
unfolding product
like-product h g = record {
  re = like-sub _ _ _ _ (like-mul _ _ _ _ h.re g.re) (like-mul _ _ _ _ h.im g.im);
  im = like-add _ _ _ _ (like-mul _ _ _ _ h.re g.im) (like-mul _ _ _ _ h.im g.re);
}

-- sums
pub like-sum : {a a' b b' : Complex} → Like a a' → Like b b' → Like (sum_of a b) (sum_of a' b')
unfolding sum_of
like-sum h g = record { re = like-add _ _ _ _ h.re g.re; im = like-add _ _ _ _ h.im g.im }

-- differences
pub like-difference : {a a' b b' : Complex} → Like a a' → Like b b' → Like (difference a b) (difference a' b')
unfolding difference
like-difference h g = record { re = like-sub _ _ _ _ h.re g.re; im = like-sub _ _ _ _ h.im g.im }

-- negations
pub like-negation : {a a' : Complex} → Like a a' → Like (negation a) (negation a')
unfolding negation
like-negation h = record { re = like-neg _ _ h.re; im = like-neg _ _ h.im }

-- conjugates
pub like-conjugate : {a a' : Complex} → Like a a' → Like (conjugate a) (conjugate a')
unfolding conjugate
like-conjugate h = record { re = h.re; im = like-neg _ _ h.im }

-- quotients by the same real number
pub like-quotient : {a a' : Complex} (k : Float) → Like a a' → Like (quotient a k) (quotient a' k)
unfolding quotient
like-quotient k h = record { re = like-div _ _ k h.re; im = like-div _ _ k h.im }

-- products with the same real number
pub like-real : {a a' : Complex} (k : Float) → Like a a' → Like (times_real k a) (times_real k a')
unfolding times_real
like-real k h = record { re = like-mul k k _ _ refl h.re; im = like-mul k k _ _ refl h.im }

-- the sum of the squares is the same
pub like-norm : {a a' : Complex} → Like a a' → norm_sqr a ≡ norm_sqr a'
unfolding norm_sqr
like-norm {a} {a'} h = ap₂ (add binary64) (like-square a.re a'.re h.re) (like-square a.im a'.im h.im)

-- ---- the modulus

-- a part's size, and the square of the scaled part, have no sign
units-bare : (x : Float) → units_of (bare x) ≡ units_of x
unfolding bare units_of
units-bare nan = refl
units-bare (inf s) = refl
units-bare (fin s zero e) = refl
units-bare (fin s (suc m) e) = refl

like-units : (x x' : Float) → bare x ≡ bare x' → units_of x ≡ units_of x'
like-units x x' h = sym (units-bare x) ∙ ap units_of h ∙ units-bare x'

square-neg : (x : Float) → mul binary64 x x ≡ mul binary64 (neg x) (neg x)
square-neg x = sym (neg-neg (mul binary64 x x)) ∙ ap neg (sym (mul-neg x x)) ∙ sym (neg-mul x (neg x))

abbrev square : Float → Float
square x = mul binary64 x x

over-bare : (t : ℕ) (x : Float) → square (over t (bare x)) ≡ square (over t x)
unfolding bare over
over-bare t nan = refl
over-bare t (inf s) = refl
over-bare t (fin true zero e) =
    let a = 0 * up e * 2 ^ 1074 in
    square-neg (round binary64 false a (down e * t)) ∙ ap square (sym (round-neg binary64 false a (down e * t)))
over-bare t (fin false zero e) = refl
over-bare t (fin s (suc m) e) = refl

like-over : (t : ℕ) (x x' : Float) → bare x ≡ bare x' → square (over t x) ≡ square (over t x')
like-over t x x' h = sym (over-bare t x) ∙ ap (λ (z : Float). square (over t z)) h ∙ over-bare t x'

like-scaled : (t : ℕ) (x x' y y' : Float) → bare x ≡ bare x' → bare y ≡ bare y' → scaled_by t x y ≡ scaled_by t x' y'
unfolding scaled_by root_of_squares
like-scaled t x x' y y' h g = ap₂ (λ (p q : Float). back t (sqrt_of (add binary64 p q))) (like-over t x x' h) (like-over t y y' g)

like-larger : (n n' : ℕ) (x x' y y' : Float) → n ≡ n' → bare x ≡ bare x' → bare y ≡ bare y' → scaled_modulus n x y ≡ scaled_modulus n' x' y'
unfolding scaled_modulus
like-larger n n' x x' y y' e h g =
    ap (λ (z : Float). cond (eqb n 0) zero_float z) (like-scaled (leading n) x x' y y' h g)
    ∙ ap (λ (k : ℕ). cond (eqb k 0) zero_float (scaled_by (leading k) x' y')) e

-- the modulus is the same
pub like-modulus : {a a' : Complex} → Like a a' → modulus_of a ≡ modulus_of a'
unfolding modulus_of
like-modulus {a} {a'} h =
    let n = max (units_of a.re) (units_of a.im) in
    let n' = max (units_of a'.re) (units_of a'.im) in
    let e : n ≡ n' = ap₂ max (like-units a.re a'.re h.re) (like-units a.im a'.im h.im) in
    ap₂ (λ (p q : Bool). cond (p && q) (scaled_modulus n a.re a.im) (sqrt_of (norm_sqr a)))
    (like-finite a.re a'.re h.re) (like-finite a.im a'.im h.im)
    ∙ ap₂ (λ (p q : Float). cond (is_finite a'.re && is_finite a'.im) p q)
    (like-larger n n' a.re a'.re a.im a'.im e h.re h.im) (ap sqrt_of (like-norm h))

-- ---- by a number without an imaginary part

-- where what the imaginary part gives is a zero, the product is that of the real part
times_zero : (k : Float) (f x : Complex) → f.re ≡ k → is_zero (mul binary64 f.im x.re) ≡ true → is_zero (mul binary64 f.im x.im) ≡ true → Like (product f x) (times_real k x)
unfolding product times_real sub
times_zero k f x e z y = record {
  re = add-zero (mul binary64 f.re x.re) _ (mul-fits binary64 f.re x.re) (neg-zero _ y) ∙ ap (λ (c : Float). bare (mul binary64 c x.re)) e;
  im = add-zero (mul binary64 f.re x.im) _ (mul-fits binary64 f.re x.im) z ∙ ap (λ (c : Float). bare (mul binary64 c x.im)) e;
}

-- of imaginary part +0.0
pub times-plus-zero : (k : Float) (f x : Complex) → f.re ≡ k → f.im ≡ zero_float → FiniteCell x → Like (product f x) (times_real k x)
times-plus-zero k f x e z h =
    times_zero k f x e
    (ap (λ (c : Float). is_zero (mul binary64 c x.re)) z ∙ zero-times x.re h.re)
    (ap (λ (c : Float). is_zero (mul binary64 c x.im)) z ∙ zero-times x.im h.im)

-- and of imaginary part -0.0
pub times-minus-zero : (k : Float) (f x : Complex) → f.re ≡ k → f.im ≡ neg zero_float → FiniteCell x → Like (product f x) (times_real k x)
times-minus-zero k f x e z h =
    times_zero k f x e
    (ap (λ (c : Float). is_zero (mul binary64 c x.re)) z ∙ minus-zero-times x.re h.re)
    (ap (λ (c : Float). is_zero (mul binary64 c x.im)) z ∙ minus-zero-times x.im h.im)

-- ---- a finite result has finite operands

-- of a sum, both
pub sum_back : {a b : Complex} → FiniteCell (sum_of a b) → FiniteCell a × FiniteCell b
unfolding sum_of
sum_back {a} {b} h =
    let p = add-finite a.re b.re h.re in
    let q = add-finite a.im b.im h.im in
    (record { re = p.0; im = q.0 }, record { re = p.1; im = q.1 })

-- of a product, the second factor
pub product-back : (a : Complex) {b : Complex} → FiniteCell (product a b) → FiniteCell b
unfolding product
product-back a {b} h =
    let p = sub-finite (mul binary64 a.re b.re) (mul binary64 a.im b.im) h.re in
    record { re = (mul-finite a.re b.re p.0).1; im = (mul-finite a.im b.im p.1).1 }

-- of a product with a real number, the complex one
pub real-back : (k : Float) {a : Complex} → FiniteCell (times_real k a) → FiniteCell a
unfolding times_real
real-back k {a} h = record { re = (mul-finite k a.re h.re).1; im = (mul-finite k a.im h.im).1 }
