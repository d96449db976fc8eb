-- Two amplitudes behind one plate have the same product with the conjugate, for every float; and a state behind plates is refused as it
-- was. Assumes nothing.
use mathlib.Core.Path.{◌≡◌, refl, sym, ap, ap₂, ◌∙◌}
use mathlib.Core.Bool.{Bool, true, false, not}
use mathlib.Core.List.{List, [], ◌∷◌}
use Prim.Native.Nat.{ℕ, zero, suc, ◌+◌, ◌*◌, ◌/◌, ◌<◌}
use native.Mathlib.Omega.{arith}
use lib.Ieee.{Float, nan, inf, fin, binary64, add, mul, neg}
use lib.ListN.{length}
use Rattle.answers.specs.Paper.{Reply, refuse}
use Rattle.numbers.specs.Numbers.{allowed}
use Rattle.complex.specs.declared.Complex.{Complex}
use Rattle.complex.specs.Arithmetic.{complex_of, product, conjugate}
use Rattle.complex.specs.Cells.{cell_at, components}
use Rattle.signs.proofs.Signs.{neg-neg, mul-neg, neg-mul, add-swap}
use Rattle.complex.proofs.ConjugateProduct.{conjugate_product, conjugate-product}
use Rattle.plates.specs.Plates.{Plate, plain, quarter, half, back, by_plate, plated}

-- ---- one term of an entry

both-neg : (x y : Float) → mul binary64 (neg x) (neg y) ≡ mul binary64 x y
both-neg x y = mul-neg (neg x) y ∙ ap neg (neg-mul x y) ∙ neg-neg (mul binary64 x y)

moved-neg : (x y : Float) → mul binary64 x (neg y) ≡ mul binary64 (neg x) y
moved-neg x y = mul-neg x y ∙ sym (neg-mul x y)

quarter-same : (a b : Complex) → conjugate_product (by_plate quarter a) (by_plate quarter b) ≡ conjugate_product a b
unfolding conjugate_product
quarter-same a b =
    ap₂ complex_of
    (ap (λ (x : Float). add binary64 x (mul binary64 a.re b.re)) (both-neg a.im b.im) ∙ add-swap (mul binary64 a.im b.im) (mul binary64 a.re b.re))
    (ap₂ (add binary64) (moved-neg a.re b.im) (ap (λ (x : Float). mul binary64 x b.re) (neg-neg a.im))
    ∙ add-swap (mul binary64 (neg a.re) b.im) (mul binary64 a.im b.re))

half-same : (a b : Complex) → conjugate_product (by_plate half a) (by_plate half b) ≡ conjugate_product a b
unfolding conjugate_product
half-same a b =
    ap₂ complex_of (ap₂ (add binary64) (both-neg a.re b.re) (both-neg a.im b.im))
    (ap₂ (add binary64) (both-neg a.im b.re) (both-neg (neg a.re) b.im))

pub back_is : (a : Complex) → by_plate back a ≡ by_plate quarter (by_plate half a)
back_is a = ap (λ (x : Float). complex_of x (neg a.re)) (sym (neg-neg a.im))

same : (p : Plate) (a b : Complex) → conjugate_product (by_plate p a) (by_plate p b) ≡ conjugate_product a b
same plain a b = refl
same quarter a b = quarter-same a b
same half a b = half-same a b
same back a b = ap₂ conjugate_product (back_is a) (back_is b) ∙ quarter-same (by_plate half a) (by_plate half b) ∙ half-same a b

-- the same bits, for every float, where both amplitudes of a term are behind the same plate
pub term-same : (p : Plate) (a b : Complex) → product (by_plate p a) (conjugate (by_plate p b)) ≡ product a (conjugate b)
term-same p a b = sym (conjugate-product (by_plate p a) (by_plate p b)) ∙ same p a b ∙ conjugate-product a b

-- ---- a state, cell by cell

pub plated-length : (f : ℕ → Plate) (x : ℕ) (s : List Float) → length (plated f x s) ≡ length s
unfolding plated
plated-length f x [] = refl
plated-length f x (a ∷ []) = refl
plated-length f x (a ∷ b ∷ l) = ap (λ (k : ℕ). suc (suc k)) (plated-length f (suc x) l)

cell-next : (a b : Float) (l : List Float) (k : ℕ) → cell_at (a ∷ b ∷ l) (suc k) ≡ cell_at l k
cell-next a b l k =
    let e : 2 * suc k ≡ suc (suc (2 * k)) = omega arith in
    let g : suc (suc (2 * k)) + 1 ≡ suc (suc (2 * k + 1)) = omega arith in
    rw (e, g)

plated-from : (f : ℕ → Plate) (x k : ℕ) (s : List Float) → 2 * k + 1 < length s → cell_at (plated f x s) k ≡ by_plate (f (x + k)) (cell_at s k)
unfolding plated
plated-from f x k [] h = absurd (omega arith)
plated-from f x k (a ∷ []) h = absurd (omega arith)
plated-from f x zero (a ∷ b ∷ l) h = let e : x + 0 ≡ x = omega arith in rw e
plated-from f x (suc k) (a ∷ b ∷ l) h =
    let e : suc x + k ≡ x + suc k = omega arith in
    cell-next _ _ (plated f (suc x) l) k ∙ plated-from f (suc x) k l (omega arith)
    ∙ ap₂ (λ (y : ℕ) (z : Complex). by_plate (f y) z) e (sym (cell-next a b l k))

pub plated-cell : (f : ℕ → Plate) (k : ℕ) (s : List Float) → 2 * k + 1 < length s → cell_at (plated f 0 s) k ≡ by_plate (f k) (cell_at s k)
plated-cell f k s h = plated-from f 0 k s h ∙ (let e : 0 + k ≡ k = omega arith in rw e)

-- ---- refused alike: the first cell that is not allowed is the same

pub allowed-neg : (x : Float) → allowed (neg x) ≡ allowed x
unfolding allowed neg
allowed-neg nan = refl
allowed-neg (inf s) = refl
allowed-neg (fin s m e) = refl

refuse-both : (p q : Bool) (r : Reply) (z : Reply) → refuse p r (refuse q r z) ≡ refuse q r (refuse p r z)
refuse-both true true r z = refl
refuse-both true false r z = refl
refuse-both false true r z = refl
refuse-both false false r z = refl

cell-reply : (p : Plate) (a b : Float) (r z : Reply)
    → refuse (not (allowed (by_plate p (complex_of a b)).re)) r (refuse (not (allowed (by_plate p (complex_of a b)).im)) r z)
    ≡ refuse (not (allowed a)) r (refuse (not (allowed b)) r z)
cell-reply plain a b r z = refl
cell-reply quarter a b r z = rw (allowed-neg b) (refuse-both (not (allowed b)) (not (allowed a)) r z)
cell-reply half a b r z = rw (allowed-neg a, allowed-neg b)
cell-reply back a b r z = rw (allowed-neg a) (refuse-both (not (allowed b)) (not (allowed a)) r z)

components_from : (f : ℕ → Plate) (x : ℕ) (s : List Float) → components (2 * x) (plated f x s) ≡ components (2 * x) s
unfolding plated components
components_from f x [] = refl
components_from f x (a ∷ []) = refl
components_from f x (a ∷ b ∷ l) =
    let e : suc (suc (2 * x)) ≡ 2 * suc x = omega arith in
    let o : suc (2 * x) / 2 ≡ 2 * x / 2 = omega arith in
    rw (o, e, components_from f (suc x) l) (cell-reply (f x) a b (7, 2 * x / 2) (components (2 * suc x) l))

pub components-same : (f : ℕ → Plate) (s : List Float) → components 0 (plated f 0 s) ≡ components 0 s
components-same f s = components_from f 0 s
