-- What no product of allowed components can be: an infinity or a NaN. Assumes nothing.
use mathlib.Core.Path.{◌≡◌}
use mathlib.Core.Bool.{true}
use Prim.Native.Nat.{◌^◌}
use lib.Ieee.{Float, binary64, mul, neg}
use lib.Ieee as Ieee
use Rattle.numbers.specs.Numbers.{allowed, is_finite}
use Rattle.complex.specs.declared.Complex.{Complex}
use Rattle.complex.specs.Arithmetic.{product, scaled}
use Rattle.finite_products.specs.Within.{Within, product_most}
use Rattle.finite_products.proofs.WithinLaws.{within-finite, within-neg, mul-within, add-within}

-- A product of two allowed components is finite.
pub mul-finite : (x y : Float) → allowed x ≡ true → allowed y ≡ true → is_finite (mul binary64 x y) ≡ true
mul-finite x y h g = within-finite (2 ^ 400) (mul binary64 x y) (mul-within x y h g)

-- Both parts of a product of two complex numbers with allowed components are at most `product_most` in magnitude.
pub product-within : (a b : Complex) → allowed a.re ≡ true → allowed a.im ≡ true → allowed b.re ≡ true → allowed b.im ≡ true
    → Within product_most (product a b).re × Within product_most (product a b).im
unfolding product Ieee.sub
product-within a b h i j k =
    let rr = mul binary64 a.re b.re in
    let ii = mul binary64 a.im b.im in
    let ri = mul binary64 a.re b.im in
    let ir = mul binary64 a.im b.re in (
      add-within rr (neg ii) (mul-within a.re b.re h j) (within-neg (2 ^ 400) ii (mul-within a.im b.im i k)),
      add-within ri ir (mul-within a.re b.im h k) (mul-within a.im b.re i j),
    )

-- So they are finite.
pub product-finite : (a b : Complex) → allowed a.re ≡ true → allowed a.im ≡ true → allowed b.re ≡ true → allowed b.im ≡ true
    → (is_finite (product a b).re ≡ true) × (is_finite (product a b).im ≡ true)
product-finite a b h i j k =
    let w = product-within a b h i j k in
    (within-finite product_most (product a b).re w.0, within-finite product_most (product a b).im w.1)

-- Both parts of a complex number with allowed components times an allowed real number are finite.
pub scaled-finite : (a : Complex) (x : Float) → allowed a.re ≡ true → allowed a.im ≡ true → allowed x ≡ true
    → (is_finite (scaled a x).re ≡ true) × (is_finite (scaled a x).im ≡ true)
unfolding scaled
scaled-finite a x h i j = (mul-finite a.re x h j, mul-finite a.im x i j)
