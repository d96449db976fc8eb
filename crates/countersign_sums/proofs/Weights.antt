-- Weights: those of a sum add, those of a product multiply. So that nothing wraps is one bound. Assumes nothing.
use mathlib.Core.Path.{◌≡◌}
use Prim.Native.Nat.{ℕ, ◌+◌, ◌*◌}
use native.Mathlib.Nat.{add-mul, mul-add}
use native.Mathlib.Omega.{arith}
use Rattle.countersign_sums.specs.declared.Whole.{Whole}
use Rattle.countersign_sums.specs.declared.Gaussian.{Gaussian}
use Rattle.countersign_sums.specs.Wholes.{times_of, weight}
use Rattle.countersign_sums.specs.Gaussians.{sum_of, product_of, by_whole, conjugate_of, difference_of, heft}

pub weight-times : (a b : Whole) → weight (times_of a b) ≡ weight a * weight b
weight-times a b =
    let p = add-mul a.over a.under (b.over + b.under) in
    let q = mul-add a.over b.over b.under in
    let r = mul-add a.under b.over b.under in
    omega (arith, p, q, r)

-- a product of sums is the sum of the four products
pub four : (a b c d : ℕ) → (a + b) * (c + d) ≡ a * c + a * d + (b * c + b * d)
four a b c d =
    let p = add-mul a b (c + d) in
    let q = mul-add a c d in
    let r = mul-add b c d in
    omega (arith, p, q, r)

pub heft-sum : (a b : Gaussian) → heft (sum_of a b) ≡ heft a + heft b
unfolding heft sum_of
heft-sum a b = omega arith

pub heft-product : (a b : Gaussian) → heft (product_of a b) ≡ heft a * heft b
unfolding heft product_of
heft-product a b =
    let p = weight-times a.re b.re in
    let q = weight-times a.im b.im in
    let r = weight-times a.re b.im in
    let s = weight-times a.im b.re in
    omega (arith, four (weight a.re) (weight a.im) (weight b.re) (weight b.im), p, q, r, s)

pub heft-by : (a : Gaussian) (w : Whole) → heft (by_whole a w) ≡ heft a * weight w
unfolding heft by_whole
heft-by a w = omega (arith, add-mul (weight a.re) (weight a.im) (weight w), weight-times a.re w, weight-times a.im w)

pub heft-conjugate : (a : Gaussian) → heft (conjugate_of a) ≡ heft a
unfolding heft conjugate_of
heft-conjugate a = omega arith

pub heft-difference : (a b : Gaussian) → heft (difference_of a b) ≡ heft a + heft b
unfolding heft difference_of
heft-difference a b = omega arith
