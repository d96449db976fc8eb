-- What a reader may want to know of an exact root. Assumes nothing.
use mathlib.Core.Path.{◌≡◌, refl, sym, ap, ◌∙◌, subst}
use mathlib.Core.Bool.{Bool, true, false, false≢true}
use Prim.Native.Nat.{ℕ, zero, suc, ◌*◌, ◌^◌, ◌≤◌, ◌<◌}
use native.Mathlib.Nat.{mul_assoc, mul-one, mul-pos, lt_irrefl, lt_of_lt_of_le, lt_of_not-le, zero-lt-suc, le_of_eq}
use native.Mathlib.Decide.{dec_le}
use lib.IntN.{ℤ, pos}
use lib.Dec.{T}
use lib.Pow.{pow_pos}
use lib.Ieee as Ieee
use lib.Ieee.{Float, nan, inf, fin, binary64, of_bits, to_bits, fits, mul, round, units, odd}
use lib.Ieee.Bits.{of_bits-to_bits}
use lib.Ieee.Fits.{mul-fits}
use lib.Ieee.Exact.{HasValue, odd_sign, round_exact}
use lib.Ieee.Scale.{round_same}
use lib.Ieee.Positive.{positive_of_value, mul_at}
use borrow.Author.Tests.{eqb-true}
use Rattle.numbers.specs.Root.{units_of, number, squared, sqrt_of}
use Rattle.signs.proofs.Zeros.{zero_exponent}
use Rattle.numbers.specs.Numbers.{magnitude_of}
use Rattle.numbers.proofs.Patterns.{size_is, number_is, normal-is, small_is, normal-size, small_size, moved-suc, size-lt}
use Rattle.numbers.proofs.Unique.{same_size}
use Rattle.numbers.proofs.Right.{right}
use Rattle.exact_roots.specs.declared.Marked.{Marked}
use Rattle.exact_roots.specs.Exact.{exact_root, square_units}
use Rattle.exact_roots.proofs.Marks.{number_fits, number-bits}

-- Only one outcome meets the contract of `sqrt_marked`: the root and its mark.
pub sqrt-marked-one : (x : Float) (r q : Marked) → (r.root ≡ sqrt_of x) × (r.exact ≡ exact_root x) → (q.root ≡ sqrt_of x) × (q.exact ≡ exact_root x) → r ≡ q
sqrt-marked-one x r q a b =
    let e : r.root ≡ q.root = a.0 ∙ sym b.0 in
    let f : r.exact ≡ q.exact = a.1 ∙ sym b.1 in
    rw (← e, ← f)

-- ---- the value of a number is its units
own-units : (r : Float) → T (number r) → HasValue r false (units_of r) (2 ^ 1074)
own-units r t =
    let b = to_bits binary64 r in
    subst (λ (z : Float). HasValue z false (units_of z) (2 ^ 1074)) (of_bits-to_bits binary64 r (number_fits r t)) (go (dec_le (2 ^ 52) b))
  where
    at : (x : Float) (q k : ℕ) → x ≡ odd 53 false q k 1074 → units_of x ≡ q * 2 ^ k → HasValue x false (units_of x) (2 ^ 1074)
    at x q k e u =
        subst (λ (n : ℕ). HasValue x false n (2 ^ 1074)) (sym u)
        (subst (λ (z : Float). HasValue z false (q * 2 ^ k) (2 ^ 1074)) (sym e) (odd_sign 53 false q k 1074))

    go : Dec (2 ^ 52 ≤ to_bits binary64 r) → HasValue (of_bits binary64 (to_bits binary64 r)) false (units_of (of_bits binary64 (to_bits binary64 r))) (2 ^ 1074)
    go (yes h) = at _ _ _ (normal-is _ h (number-bits r t)) (normal-size _ h (number-bits r t))
    go (no n) = at _ _ 0 (small_is _ (lt_of_not-le n)) (small_size _ (lt_of_not-le n) ∙ sym (mul-one _))

-- ---- the float product of a positive root with itself
module _ (m : ℕ) (e : ℤ) (f : T (fits binary64 (fin false (suc m) e))) where
  abbrev x : Float
  x = fin false (suc m) e

  module _ (r : Float) (t : T (number r)) (same : square_units r ≡ squared x) where
    u : ℕ
    u = units_of r

    D : ℕ
    D = 2 ^ 1074

    D-pos : 0 < D
    unfolding D
    D-pos = pow_pos 1074

    square : u * u ≡ units_of x * D
    unfolding square_units squared u D
    square = same

    x_pos : 0 < units_of x
    x_pos = let v = moved-suc m e f in lt_of_lt_of_le (mul-pos (zero-lt-suc m) (pow_pos v.0)) (le_of_eq (sym v.2))

    u-pos : 0 < u
    u-pos = go u square
      where
        go : (n : ℕ) → n * n ≡ units_of x * D → 0 < n
        go zero h = absurd (lt_irrefl 0 (lt_of_lt_of_le (mul-pos x_pos D-pos) (le_of_eq (sym h))))
        go (suc n) h = zero-lt-suc n

    value : HasValue r false u D
    unfolding u D
    value = own-units r t

    product : mul binary64 r r ≡ round binary64 false (units_of x) D
    product =
        let p = positive_of_value r u D value u-pos in
        mul_at binary64 r r u D u D p p D-pos D-pos value value
        ∙ round_same binary64 false (u * u) (D * D) (units_of x) D (mul-pos D-pos D-pos) D-pos (ap (λ (z : ℕ). z * D) square ∙ mul_assoc (units_of x) D D)

    fine : HasValue (round binary64 false (units_of x) D) false (units_of x) D
    unfolding D
    fine =
        let v = moved-suc m e f in
        round_exact binary64 false (units_of x) (2 ^ 1074) (suc m) v.0 (pow_pos 1074) v.1
        (subst (λ (z : ℕ). z < 2 ^ 2098) v.2 (size-lt m e f)) (ap (λ (z : ℕ). z * 2 ^ 1074) v.2)

    gives_back : mul binary64 r r ≡ x
    unfolding D number
    gives_back =
        let h : HasValue (mul binary64 r r) false (units_of x) (2 ^ 1074) = subst (λ (z : Float). HasValue z false (units_of x) (2 ^ 1074)) (sym product) fine in
        same_size (mul binary64 r r) x (number_is (mul binary64 r r) (units_of x) h (mul-fits binary64 r r)) f (size_is (mul binary64 r r) false (units_of x) h)

-- a zero's square
zero-by-sign : (s : Bool) → mul binary64 (fin s zero (pos 0)) (fin s zero (pos 0)) ≡ fin false zero (pos 0)
unfolding mul round units odd Ieee.size Ieee.span Ieee.climb
zero-by-sign true = refl
zero-by-sign false = refl

zero-square : (s : Bool) (e : ℤ) → T (fits binary64 (fin s zero e)) → mul binary64 (fin s zero e) (fin s zero e) ≡ fin false zero e
zero-square s e f =
    let z = zero_exponent s e f in
    ap (λ (z : ℤ). mul binary64 (fin s zero z) (fin s zero z)) z ∙ zero-by-sign s ∙ ap (λ (z : ℤ). fin false zero z) (sym z)

-- Where the root of x is exact its square as a float product is x, with no overflow and no rounding: that of -0, which is +0, too.
pub exact-square : (x : Float) → T (fits binary64 x) → exact_root x ≡ true → mul binary64 (sqrt_of x) (sqrt_of x) ≡ magnitude_of x
unfolding exact_root sqrt_of magnitude_of
exact-square nan f h = absurd (false≢true h)
exact-square (inf s) f h = absurd (false≢true h)
exact-square (fin true zero e) f h = zero-square true e f
exact-square (fin false zero e) f h = zero-square false e f
exact-square (fin true (suc m) e) f h = absurd (false≢true h)
exact-square (fin false (suc m) e) f h = gives_back m e f (sqrt_of (fin false (suc m) e)) (right (fin false (suc m) e) f).float (eqb-true _ _ h)
