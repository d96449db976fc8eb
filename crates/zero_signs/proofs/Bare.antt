-- Floats that are alike but for the sign of a zero: `bare` forgets that sign, and each operation of binary64 answers alike on alike operands. Assumes nothing.
use mathlib.Core.Path.{◌≡◌, refl, sym, ap, ◌∙◌, subst}
use mathlib.Core.Bool.{Bool, true, false, ◌&&◌, cond, true≢false, false≢true}
use Prim.Native.Nat.{ℕ, zero, suc, ◌+◌, ◌-◌, ◌*◌, ◌^◌, ◌<◌}
use native.Mathlib.Nat.{zero-mul, mul_assoc, mul-pos, zero-lt-suc}
use native.Mathlib.Omega.{arith}
use borrow.Author.Tests.{lt-ltb}
use lib.Dec.{T, ltb, eqb, eqb-suc-zero}
use lib.IntN.{ℤ, pos}
use lib.Pow.{pow_pos}
use lib.Ieee.{Float, nan, inf, fin, binary64, up, down, unlike, of_bits, fits, round, neg, sum, add, sub, mul, div}
use lib.Ieee.Fits.{up_pos, down_pos, round-fits}
use lib.Ieee.Exact.{HasValue, round_exact}
use lib.Ieee.Scale.{round_same}
use Rattle.numbers.specs.Numbers.{is_finite}
use Rattle.numbers.specs.Root.{units_of, number}
use Rattle.numbers.proofs.Patterns.{size_is, number_is, moved-suc, size-lt}
use Rattle.numbers.proofs.Unique.{same_size}
use Rattle.signs.proofs.Zeros.{round-zero, zero_exponent, either-sign}
use Rattle.signs.proofs.Signs.{round-neg, mul-swap, add-swap}
use Rattle.complex.specs.Zeros.{zero_float}
use Rattle.scaled.proofs.ScaleLaws.{sum-finite}
use Rattle.modulus.proofs.Sizes.{whole-size}
unfoldable pub use Rattle.zero_signs.proofs.Unsigned.{bare}

-- a zero of either sign
unfoldable pub is_zero : Float → Bool
is_zero nan = false
is_zero (inf s) = false
is_zero (fin s zero e) = true
is_zero (fin s (suc m) e) = false

-- ---- what has no zero in it is itself

own : (x : Float) → is_zero x ≡ false → bare x ≡ x
unfolding bare is_zero
own nan h = refl
own (inf s) h = refl
own (fin s zero e) h = absurd (true≢false h)
own (fin s (suc m) e) h = refl

zero-bare : (x : Float) → is_zero (bare x) ≡ is_zero x
unfolding bare is_zero
zero-bare nan = refl
zero-bare (inf s) = refl
zero-bare (fin s zero e) = refl
zero-bare (fin s (suc m) e) = refl

-- two that are alike are equal where one is no zero
pub bare-same : (x y : Float) → is_zero x ≡ false → bare x ≡ bare y → x ≡ y
bare-same x y h e = sym (own x h) ∙ e ∙ own y (sym (zero-bare y) ∙ ap is_zero (sym e) ∙ zero-bare x ∙ h)

-- alike, both are zeros or neither is
pub like-zero : (x x' : Float) → bare x ≡ bare x' → is_zero x ≡ is_zero x'
like-zero x x' h = sym (zero-bare x) ∙ ap is_zero h ∙ zero-bare x'

finite-bare : (x : Float) → is_finite (bare x) ≡ is_finite x
unfolding bare is_finite
finite-bare nan = refl
finite-bare (inf s) = refl
finite-bare (fin s zero e) = refl
finite-bare (fin s (suc m) e) = refl

-- both are finite or neither is
pub like-finite : (x x' : Float) → bare x ≡ bare x' → is_finite x ≡ is_finite x'
like-finite x x' h = sym (finite-bare x) ∙ ap is_finite h ∙ finite-bare x'

-- ---- a zero rounded is a zero

none : (s : Bool) (a c : ℕ) → a ≡ 0 → 0 < c → round binary64 s a c ≡ fin s 0 (pos 0)
none s a c z h = ap (λ (x : ℕ). round binary64 s x c) z ∙ round-zero s c h

bare-none : (s : Bool) (a c : ℕ) → a ≡ 0 → 0 < c → bare (round binary64 s a c) ≡ fin false 0 (pos 0)
unfolding bare
bare-none s a c z h = ap bare (none s a c z h)

is_none : (s : Bool) (a c : ℕ) → a ≡ 0 → 0 < c → is_zero (round binary64 s a c) ≡ true
unfolding is_zero
is_none s a c z h = ap is_zero (none s a c z h)

nought : (a b : ℕ) → 0 * a * b ≡ 0
nought a b = ap (λ (x : ℕ). x * b) (zero-mul a) ∙ zero-mul b

-- ---- the sign changed

neg-bare : (x : Float) → bare (neg (bare x)) ≡ bare (neg x)
unfolding bare neg
neg-bare nan = refl
neg-bare (inf s) = refl
neg-bare (fin s zero e) = refl
neg-bare (fin s (suc m) e) = refl

-- negations of alike numbers are alike
pub like-neg : (x x' : Float) → bare x ≡ bare x' → bare (neg x) ≡ bare (neg x')
like-neg x x' h = sym (neg-bare x) ∙ ap (λ (z : Float). bare (neg z)) h ∙ neg-bare x'

zero-neg : (x : Float) → is_zero (neg x) ≡ is_zero x
unfolding is_zero neg
zero-neg nan = refl
zero-neg (inf s) = refl
zero-neg (fin s zero e) = refl
zero-neg (fin s (suc m) e) = refl

-- a zero's negation is a zero
pub neg-zero : (x : Float) → is_zero x ≡ true → is_zero (neg x) ≡ true
neg-zero x h = zero-neg x ∙ h

-- ---- products

mul-bare : (x y : Float) → bare (mul binary64 (bare x) y) ≡ bare (mul binary64 x y)
unfolding bare mul
mul-bare nan y = refl
mul-bare (inf s) y = refl
mul-bare (fin s zero e) nan = refl
mul-bare (fin s zero e) (inf t) = refl
mul-bare (fin s zero e) (fin t n d) =
    let z = nought (up e) (n * up d) in
    let c : 0 < down e * down d = mul-pos (down_pos e) (down_pos d) in
    bare-none (unlike false t) (0 * up e * (n * up d)) (down e * down d) z c ∙ sym (bare-none (unlike s t) (0 * up e * (n * up d)) (down e * down d) z c)
mul-bare (fin s (suc m) e) y = refl

like-mul-left : (x x' y : Float) → bare x ≡ bare x' → bare (mul binary64 x y) ≡ bare (mul binary64 x' y)
like-mul-left x x' y h = sym (mul-bare x y) ∙ ap (λ (z : Float). bare (mul binary64 z y)) h ∙ mul-bare x' y

-- products of alike factors are alike
pub like-mul : (x x' y y' : Float) → bare x ≡ bare x' → bare y ≡ bare y' → bare (mul binary64 x y) ≡ bare (mul binary64 x' y')
like-mul x x' y y' h g = like-mul-left x x' y h ∙ ap bare (mul-swap x' y) ∙ like-mul-left y y' x' g ∙ ap bare (mul-swap y' x')

square-bare : (x : Float) → mul binary64 (bare x) (bare x) ≡ mul binary64 x x
unfolding bare mul
square-bare nan = refl
square-bare (inf s) = refl
square-bare (fin true zero e) = refl
square-bare (fin false zero e) = refl
square-bare (fin s (suc m) e) = refl

-- their squares are the same
pub like-square : (x x' : Float) → bare x ≡ bare x' → mul binary64 x x ≡ mul binary64 x' x'
like-square x x' h = sym (square-bare x) ∙ ap (λ (z : Float). mul binary64 z z) h ∙ square-bare x'

-- a zero times a finite number is a zero
pub zero-product : (w y : Float) → is_zero w ≡ true → is_finite y ≡ true → is_zero (mul binary64 w y) ≡ true
unfolding is_zero is_finite mul
zero-product nan y z h = absurd (false≢true z)
zero-product (inf s) y z h = absurd (false≢true z)
zero-product (fin s zero e) nan z h = absurd (false≢true h)
zero-product (fin s zero e) (inf t) z h = absurd (false≢true h)
zero-product (fin s zero e) (fin t n d) z h =
    is_none (unlike s t) (0 * up e * (n * up d)) (down e * down d) (nought (up e) (n * up d)) (mul-pos (down_pos e) (down_pos d))
zero-product (fin s (suc m) e) y z h = absurd (false≢true z)

zero_is : is_zero zero_float ≡ true
unfolding is_zero of_bits
zero_is = refl

-- +0.0 times a finite number
pub zero-times : (y : Float) → is_finite y ≡ true → is_zero (mul binary64 zero_float y) ≡ true
zero-times y h = zero-product zero_float y zero_is h

-- and -0.0
pub minus-zero-times : (y : Float) → is_finite y ≡ true → is_zero (mul binary64 (neg zero_float) y) ≡ true
minus-zero-times y h = zero-product (neg zero_float) y (neg-zero zero_float zero_is) h

no_number : (b s : Bool) → is_finite (cond b nan (inf s)) ≡ true → ⊥
unfolding is_finite
no_number true s h = false≢true h
no_number false s h = false≢true h

-- a finite product has finite factors
pub mul-finite : (x y : Float) → is_finite (mul binary64 x y) ≡ true → (is_finite x ≡ true) × (is_finite y ≡ true)
unfolding mul is_finite
mul-finite nan y h = absurd (false≢true h)
mul-finite (inf s) nan h = absurd (false≢true h)
mul-finite (inf s) (inf t) h = absurd (false≢true h)
mul-finite (inf s) (fin t n d) h = absurd (no_number (eqb n 0) (unlike s t) h)
mul-finite (fin s m e) nan h = absurd (false≢true h)
mul-finite (fin s m e) (inf t) h = absurd (no_number (eqb m 0) (unlike s t) h)
mul-finite (fin s m e) (fin t n d) h = (refl, refl)

-- ---- quotients

div-bare : (x y : Float) → bare (div binary64 (bare x) y) ≡ bare (div binary64 x y)
unfolding bare div
div-bare nan y = refl
div-bare (inf s) y = refl
div-bare (fin s zero e) nan = refl
div-bare (fin s zero e) (inf t) = refl
div-bare (fin s zero e) (fin t zero d) = refl
div-bare (fin s zero e) (fin t (suc n) d) =
    let z = nought (up e) (down d) in
    let c : 0 < suc n * up d * down e = mul-pos (mul-pos (zero-lt-suc n) (up_pos d)) (down_pos e) in
    rw (eqb-suc-zero n)
    (bare-none (unlike false t) (0 * up e * down d) (suc n * up d * down e) z c ∙ sym (bare-none (unlike s t) (0 * up e * down d) (suc n * up d * down e) z c))
div-bare (fin s (suc m) e) y = refl

-- alike numbers over the same one
pub like-div : (x x' y : Float) → bare x ≡ bare x' → bare (div binary64 x y) ≡ bare (div binary64 x' y)
like-div x x' y h = sym (div-bare x y) ∙ ap (λ (z : Float). bare (div binary64 z y)) h ∙ div-bare x' y

-- ---- sums

unlike-signs : (s t : Bool) (b c : ℕ) → 0 < c → bare (cond (ltb 0 b) (round binary64 t (b - 0) c) (round binary64 (s && ltb b 0) (0 - b) c)) ≡ bare (round binary64 t b c)
unlike-signs s t zero c h = bare-none (s && ltb 0 0) (0 - 0) c refl h ∙ sym (bare-none t 0 c refl h)
unlike-signs s t (suc b) c h = rw (lt-ltb 0 (suc b) (omega arith)) (ap (λ (x : ℕ). bare (round binary64 t x c)) (omega arith))

like-signs : (t : Bool) (b c : ℕ) → bare (round binary64 t (0 + b) c) ≡ bare (round binary64 t b c)
like-signs t b c = ap (λ (x : ℕ). bare (round binary64 t x c)) (omega arith)

sum-none : (s t : Bool) (b c : ℕ) → 0 < c → bare (sum binary64 s 0 t b c) ≡ bare (round binary64 t b c)
unfolding sum
sum-none true true b c h = like-signs true b c
sum-none false false b c h = like-signs false b c
sum-none true false b c h = unlike-signs true false b c h
sum-none false true b c h = unlike-signs false true b c h

-- a zero and a number: the number's sign decides
zero-sum : (s t : Bool) (a b c : ℕ) → a ≡ 0 → 0 < c → bare (sum binary64 s a t b c) ≡ bare (round binary64 t b c)
zero-sum s t a b c z h = ap (λ (x : ℕ). bare (sum binary64 s x t b c)) z ∙ sum-none s t b c h

add-bare : (x y : Float) → bare (add binary64 (bare x) y) ≡ bare (add binary64 x y)
unfolding bare add
add-bare nan y = refl
add-bare (inf s) y = refl
add-bare (fin s zero e) nan = refl
add-bare (fin s zero e) (inf t) = refl
add-bare (fin s zero e) (fin t n d) =
    let z = nought (up e) (down d) in
    let c : 0 < down e * down d = mul-pos (down_pos e) (down_pos d) in
    zero-sum false t (0 * up e * down d) (n * up d * down e) (down e * down d) z c
    ∙ sym (zero-sum s t (0 * up e * down d) (n * up d * down e) (down e * down d) z c)
add-bare (fin s (suc m) e) y = refl

like-add-left : (x x' y : Float) → bare x ≡ bare x' → bare (add binary64 x y) ≡ bare (add binary64 x' y)
like-add-left x x' y h = sym (add-bare x y) ∙ ap (λ (z : Float). bare (add binary64 z y)) h ∙ add-bare x' y

-- sums of alike numbers are alike
pub like-add : (x x' y y' : Float) → bare x ≡ bare x' → bare y ≡ bare y' → bare (add binary64 x y) ≡ bare (add binary64 x' y')
like-add x x' y y' h g = like-add-left x x' y h ∙ ap bare (add-swap x' y) ∙ like-add-left y y' x' g ∙ ap bare (add-swap y' x')

-- and differences
pub like-sub : (x x' y y' : Float) → bare x ≡ bare x' → bare y ≡ bare y' → bare (sub binary64 x y) ≡ bare (sub binary64 x' y')
unfolding sub
like-sub x x' y y' h g = like-add x x' (neg y) (neg y') h (like-neg y y' g)

-- a finite sum has finite terms
pub add-finite : (x y : Float) → is_finite (add binary64 x y) ≡ true → (is_finite x ≡ true) × (is_finite y ≡ true)
add-finite x y h = sum-finite x y h

neg-finite : (x : Float) → is_finite (neg x) ≡ is_finite x
unfolding neg is_finite
neg-finite nan = refl
neg-finite (inf s) = refl
neg-finite (fin s m e) = refl

-- and a finite difference
pub sub-finite : (x y : Float) → is_finite (sub binary64 x y) ≡ true → (is_finite x ≡ true) × (is_finite y ≡ true)
unfolding sub
sub-finite x y h = let p = sum-finite x (neg y) h in (p.0, sym (neg-finite y) ∙ p.1)

-- ---- rounded, a float comes back

is_number : (m : ℕ) (e : ℤ) → T (fits binary64 (fin false m e)) → T (number (fin false m e))
unfolding number
is_number m e f = f

-- above zero
back-plus : (m : ℕ) (e : ℤ) → T (fits binary64 (fin false (suc m) e)) → round binary64 false (suc m * up e) (down e) ≡ fin false (suc m) e
back-plus m e f =
    let x = fin false (suc m) e in
    let u = units_of x in
    let v = moved-suc m e f in
    let same : round binary64 false (suc m * up e) (down e) ≡ round binary64 false u (2 ^ 1074) =
    round_same binary64 false (suc m * up e) (down e) u (2 ^ 1074) (down_pos e) (pow_pos 1074) (whole-size false (suc m) e f) in
    let value : HasValue (round binary64 false u (2 ^ 1074)) false u (2 ^ 1074) =
    round_exact binary64 false u (2 ^ 1074) (suc m) v.0 (pow_pos 1074) v.1 (subst (λ (z : ℕ). z < 2 ^ 2098) v.2 (size-lt m e f)) (ap (λ (z : ℕ). z * 2 ^ 1074) v.2) in
    let r = round binary64 false u (2 ^ 1074) in
    same ∙ same_size r x (number_is r u value (round-fits binary64 false u (2 ^ 1074))) (is_number (suc m) e f) (size_is r false u value)

-- of either sign, and a zero too
pub round-back : (s : Bool) (m : ℕ) (e : ℤ) → T (fits binary64 (fin s m e)) → round binary64 s (m * up e) (down e) ≡ fin s m e
unfolding neg
round-back s zero e f = none s (0 * up e) (down e) (zero-mul (up e)) (down_pos e) ∙ ap (λ (z : ℤ). fin s 0 z) (sym (zero_exponent s e f))
round-back false (suc m) e f = back-plus m e f
round-back true (suc m) e f = round-neg binary64 false (suc m * up e) (down e) ∙ ap neg (back-plus m e (either-sign true false (suc m) e f))

-- a zero added changes nothing but the sign of a zero
pub add-zero : (x w : Float) → T (fits binary64 x) → is_zero w ≡ true → bare (add binary64 x w) ≡ bare x
unfolding is_zero add
add-zero nan w f h = refl
add-zero (inf s) nan f h = absurd (false≢true h)
add-zero (inf s) (inf t) f h = absurd (false≢true h)
add-zero (inf s) (fin t n d) f h = refl
add-zero (fin s m e) nan f h = absurd (false≢true h)
add-zero (fin s m e) (inf t) f h = absurd (false≢true h)
add-zero (fin s m e) (fin t (suc n) d) f h = absurd (false≢true h)
add-zero (fin s m e) (fin t zero d) f h =
    let b = m * up e * down d in
    let c = down d * down e in
    ap bare (add-swap (fin s m e) (fin t zero d))
    ∙ zero-sum t s (0 * up d * down e) b c (nought (up d) (down e)) (mul-pos (down_pos d) (down_pos e))
    ∙ ap bare (round_same binary64 s b c (m * up e) (down e) (mul-pos (down_pos d) (down_pos e)) (down_pos e) (mul_assoc (m * up e) (down d) (down e)))
    ∙ ap bare (round-back s m e f)
