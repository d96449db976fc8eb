-- `sqrt_of` is right: `Sqrt x (sqrt_of x)` for each x that binary64 holds. With `Unique.antt`, it is the only r with `Sqrt x r`. Assumes nothing.
use mathlib.Core.Path.{◌≡◌, refl, sym, ap, ◌∙◌, subst}
use mathlib.Core.Bool.{Bool, true, false, cond}
use Prim.Native.Nat.{ℕ, zero, suc, ◌+◌, ◌-◌, ◌*◌, ◌/◌, ◌%◌, ◌^◌, ◌≤◌, ◌<◌, compare}
use native.Mathlib.Nat.{mul_assoc, mul_left_comm, mul-le-mul_right, mul-lt-mul_of_pos_right, mul-pos, lt_of_lt_of_le, lt_of_le_of_lt, le_trans, le_of_eq, lt_of_not-le, le-div_iff_mul-le, div-add-mod', mod-lt, pow-succ', not-le_of_lt, div-lt_iff_lt-mul, zero-lt-suc, one-mul}
use native.Mathlib.Numerals.{add-one-le}
use native.Mathlib.Decide.{dec_le}
use native.Mathlib.Omega.{arith}
use lib.IntN.{ℤ}
use lib.Dec.{T, eqb, eqb→eq, eqb_refl, lit<, lit≤}
use lib.Arith.{digits_div, digits_mod, lt_of_le-ne}
use lib.Pow.{pow-add, pow_pos, pow_mono, pow-lt}
use lib.Ieee as Ieee
use lib.Ieee.{Float, nan, inf, fin, binary64, fits, round, nearest}
use lib.Ieee.Digits.{size-lt, size_reaches, size-le}
use lib.Ieee.Fits.{nearest-le, round-fits}
use lib.Ieee.Nearest.{closest, closest_same, div_same, nearest-ge}
use lib.Ieee.Exact.{HasValue}
use lib.Ieee.Scale.{grid, round_val}
use Rattle.numbers.specs.Root.{units_of, number, squared, Nearest, Sqrt, sqrt_of, root_of, floor_root}
use Rattle.numbers.proofs.Halfway.{Between, square_le}
use Rattle.numbers.proofs.Patterns.{size_is, number_is, moved-suc}
use Rattle.numbers.proofs.Patterns as Patterns
use Rattle.numbers.proofs.Rounded.{Floor, floor-right, near, rounded}
use Rattle.numbers.proofs.Cases as Cases
use Rattle.numbers.proofs.Theorems.{unique}

module _ (n m j : ℕ) (lo : 2 ^ 1074 ≤ n) (hi : n < 4 ^ 1586) (is : n ≡ m * 2 ^ j) (small : m < 2 ^ 53) where
  s : ℕ
  s = floor_root 1586 n

  floor : Floor n s
  unfolding s
  floor = floor-right 1586 n hi

  s-least : 2 ^ 537 ≤ s
  s-least = go (dec_le (2 ^ 537) s)
    where
      go : Dec (2 ^ 537 ≤ s) → 2 ^ 537 ≤ s
      go (yes h) = h
      go (no f) =
          let p : (s + 1) * (s + 1) ≤ 2 ^ 537 * 2 ^ 537 = square_le (s + 1) (2 ^ 537) (add-one-le (lt_of_not-le f)) in
          absurd (not-le_of_lt floor.1 (le_trans p lo))

  s-most : s < 2 ^ 1586
  s-most = go (dec_le (2 ^ 1586) s)
    where
      go : Dec (2 ^ 1586 ≤ s) → s < 2 ^ 1586
      go (yes h) =
          let p : 2 ^ 1586 * 2 ^ 1586 ≤ s * s = square_le (2 ^ 1586) s h in
          absurd (not-le_of_lt hi (le_trans p floor.0))
      go (no f) = lt_of_not-le f

  -- ---- the digits of s: 53, and k more, of which there are some
  z : ℕ
  z = Ieee.size s

  z-least : 538 ≤ z
  unfolding z
  z-least = go (dec_le 538 (Ieee.size s))
    where
      go : Dec (538 ≤ Ieee.size s) → 538 ≤ Ieee.size s
      go (yes h) = h
      go (no f) =
          let p : 2 ^ Ieee.size s ≤ 2 ^ 537 = pow_mono {i = Ieee.size s} {j = 537} (omega (arith, lt_of_not-le f)) in
          absurd (not-le_of_lt (size-lt s) (le_trans p s-least))

  z-most : z ≤ 1586
  unfolding z
  z-most = size-le s 1586 s-most

  h : ℕ
  h = z - 54

  k-is : z - 53 ≡ suc h
  unfolding h
  k-is = omega (arith, z-least)

  H : ℕ
  H = 2 ^ h

  T-is : 2 ^ suc h ≡ 2 * H
  unfolding H
  T-is = pow-succ' 2 h

  -- ---- s in units of T = 2 H: f of them, and g over
  f : ℕ
  f = s / (2 * H)

  g : ℕ
  g = s % (2 * H)

  T-pos : 0 < 2 * H
  unfolding H
  T-pos = mul-pos (lit< tt) (pow_pos h)

  parts : s ≡ f * (2 * H) + g
  unfolding f g
  parts = sym (div-add-mod' s (2 * H))

  g-lt : g < 2 * H
  unfolding g
  g-lt = mod-lt s T-pos

  -- 2 ^ 52 units are 2 ^ (z - 1), and 2 ^ 53 are 2 ^ z
  units : (i : ℕ) → 2 ^ i * (2 * H) ≡ 2 ^ (i + suc h)
  units i = ap (λ (y : ℕ). 2 ^ i * y) (sym T-is) ∙ sym (pow-add 2 i (suc h))

  reached : 2 ^ 52 * (2 * H) ≤ s
  unfolding z h
  reached = le_trans (le_of_eq (units 52)) (size_reaches s (52 + suc h) (omega (arith, z-least)))

  f-least : 2 ^ 52 ≤ f
  unfolding f
  f-least = (le-div_iff_mul-le T-pos).1 reached

  f-most : f < 2 ^ 53
  unfolding f z h
  f-most =
      let e : 53 + suc h ≡ Ieee.size s = omega (arith, z-least) in
      (div-lt_iff_lt-mul T-pos).1 (lt_of_lt_of_le (size-lt s) (le_of_eq (sym (units 53 ∙ ap (λ (y : ℕ). 2 ^ y) e))))

  split : s ≡ f * 2 * H + g
  split = parts ∙ ap (λ (y : ℕ). y + g) (sym (mul_assoc f 2 H))

  -- ---- whether the root is above s
  t : ℕ
  t = cond (eqb (s * s) n) 0 1

  bit : t ≤ 1
  unfolding t
  bit = go (eqb (s * s) n)
    where
      go : (b : Bool) → cond b 0 1 ≤ 1
      go true = lit≤ tt
      go false = lit≤ tt

  whole : t ≡ 0 → s * s ≡ n
  unfolding t
  whole = go (eqb (s * s) n) (eqb→eq (s * s) n)
    where
      go : (b : Bool) → (T b → s * s ≡ n) → ◌≡◌ {A = ℕ} (cond b 0 1) 0 → s * s ≡ n
      go true y e = y tt
      go false y e = absurd (omega (arith, e))

  more : t ≡ 1 → s * s < n
  unfolding t
  more = go (eqb (s * s) n) (λ (e : s * s ≡ n). subst (λ (y : ℕ). T (eqb (s * s) y)) e (eqb_refl (s * s)))
    where
      go : (b : Bool) → (s * s ≡ n → T b) → ◌≡◌ {A = ℕ} (cond b 0 1) 1 → s * s < n
      go true y e = absurd (omega (arith, e))
      go false y e = lt_of_le-ne floor.0 y

  -- ---- what `round` does with 2 s + t halves
  q : ℕ
  q = nearest f (compare ((2 * g + t) * 2) (2 * (2 * H)))

  half : Between n q (2 * H)
  unfolding q H
  half = rounded n s t f g h m j floor bit whole more split g-lt f-least is small (near f (2 * g + t) (2 * (2 * H)))

  q-least : 2 ^ 52 ≤ q
  unfolding q
  q-least = le_trans f-least (nearest-ge f (compare ((2 * g + t) * 2) (2 * (2 * H))))

  q-most : q ≤ 2 ^ 53
  unfolding q
  q-most = le_trans (nearest-le f (compare ((2 * g + t) * 2) (2 * (2 * H)))) f-most

  num : ℕ
  num = 2 * s + t

  den : ℕ
  den = 2 ^ 1075

  -- the fraction in units is num / 2, and its whole part s
  cross : num * 2 ^ 1074 * 2 ≡ num * den
  unfolding den
  cross = mul_assoc num (2 ^ 1074) 2

  whole_part : num * 2 ^ 1074 / den ≡ s
  unfolding den num
  whole_part = div_same (num * 2 ^ 1074) den num 2 (pow_pos 1075) (lit< tt) cross ∙ halved s t bit
    where
      halved : (s t : ℕ) → t ≤ 1 → (2 * s + t) / 2 ≡ s
      halved s t b = omega arith

  dropped : Ieee.size (num * 2 ^ 1074 / den) - 53 ≡ suc h
  unfolding z
  dropped = ap (λ (y : ℕ). Ieee.size y - 53) whole_part ∙ k-is

  by_parts : num ≡ f * (2 * (2 * H)) + (2 * g + t)
  unfolding num
  by_parts = doubled s f (2 * H) g t parts
    where
      doubled : (s f u g t : ℕ) → s ≡ f * u + g → 2 * s + t ≡ f * (2 * u) + (2 * g + t)
      doubled s f u g t e = omega (arith, mul_left_comm f 2 u)

  rest_lt : 2 * g + t < 2 * (2 * H)
  rest_lt = below g t (2 * H) g-lt bit
    where
      below : (g t u : ℕ) → g < u → t ≤ 1 → 2 * g + t < 2 * u
      below g t u a b = omega arith

  kept-is : closest (num * 2 ^ 1074) (den * 2 ^ suc h) ≡ q
  unfolding q den
  kept-is =
      closest_same (num * 2 ^ 1074) (den * 2 ^ suc h) num (2 * (2 * H)) (mul-pos (pow_pos 1075) (pow_pos (suc h))) (mul-pos (lit< tt) T-pos) equal
      ∙ ap (λ (y : ℕ). nearest (y / (2 * (2 * H))) (compare (y % (2 * (2 * H)) * 2) (2 * (2 * H)))) by_parts
      ∙ ap (λ (y : ℕ). nearest y (compare ((f * (2 * (2 * H)) + (2 * g + t)) % (2 * (2 * H)) * 2) (2 * (2 * H)))) (digits_div f rest_lt)
      ∙ ap (λ (y : ℕ). nearest f (compare (y * 2) (2 * (2 * H)))) (digits_mod f rest_lt)
    where
      equal : num * 2 ^ 1074 * (2 * (2 * H)) ≡ num * (den * 2 ^ suc h)
      equal =
          sym (mul_assoc (num * 2 ^ 1074) 2 (2 * H))
          ∙ ap (λ (y : ℕ). y * (2 * H)) cross
          ∙ mul_assoc num den (2 * H)
          ∙ ap (λ (y : ℕ). num * (den * y)) (sym T-is)

  grid-is : grid binary64 num den ≡ q * 2 ^ suc h
  grid-is = ap (λ (y : ℕ). closest (num * 2 ^ 1074) (den * 2 ^ y) * 2 ^ y) dropped ∙ ap (λ (y : ℕ). y * 2 ^ suc h) kept-is

  in-range : q * 2 ^ suc h < 2 ^ 2098
  unfolding z h
  in-range =
      let e : 53 + suc h ≤ 1586 = omega (arith, z-least, z-most) in
      lt_of_le_of_lt (mul-le-mul_right (2 ^ suc h) q-most) (lt_of_le_of_lt (le_of_eq (sym (pow-add 2 53 (suc h)))) (lt_of_le_of_lt (pow_mono e) (pow-lt {i = 1586} {j = 2098} (lit< tt))))

  -- ---- the float
  rounded-is : root_of n ≡ round binary64 false num den
  unfolding root_of s t num den
  rounded-is = refl

  value : HasValue (root_of n) false (q * 2 ^ suc h) (2 ^ 1074)
  value =
      subst (λ (x : Float). HasValue x false (q * 2 ^ suc h) (2 ^ 1074)) (sym rounded-is)
      (subst (λ (y : ℕ). HasValue (round binary64 false num den) false y (2 ^ 1074)) grid-is
      (round_val binary64 num den (subst (λ (y : ℕ). y < 2 ^ 2098) (sym grid-is) in-range)))

  float : T (number (root_of n))
  float = number_is (root_of n) (q * 2 ^ suc h) value (subst (λ (x : Float). T (fits binary64 x)) (sym rounded-is) (round-fits binary64 false num den))

  edge : 2 ^ 52 * 2 ^ suc h * (2 ^ 52 * 2 ^ suc h) ≤ n
  edge = le_trans (square_le (2 ^ 52 * 2 ^ suc h) s (le_trans (le_of_eq (ap (λ (y : ℕ). 2 ^ 52 * y) T-is)) reached)) floor.0

  pub nearest-root : (x : Float) → squared x ≡ n → Nearest x (root_of n)
  nearest-root x e =
      Cases.nearest x (root_of n) q (suc h) float (size_is (root_of n) false (q * 2 ^ suc h) value) q-least
      (subst (λ (y : ℕ). Between y q (2 ^ suc h)) (sym e) (subst (λ (y : ℕ). Between n q y) (sym T-is) half))
      (le_trans edge (le_of_eq (sym e)))

-- ---- the square of the root, in units: at least 2 ^ 1074, below 4 ^ 1586, and of few digits but zeros at its end
module _ (m : ℕ) (e : ℤ) (f : T (fits binary64 (fin false (suc m) e))) where
  abbrev x : Float
  x = fin false (suc m) e

  positive : Nearest x (root_of (squared x))
  unfolding squared
  positive =
      let v = moved-suc m e f in
      let p : 1 ≤ units_of x = le_trans (mul-pos (zero-lt-suc m) (pow_pos v.0)) (le_of_eq (sym v.2)) in
      nearest-root (squared x) (suc m) (v.0 + 1074)
      (le_trans (le_of_eq (sym (one-mul (2 ^ 1074)))) (mul-le-mul_right (2 ^ 1074) p))
      (mul-lt-mul_of_pos_right (Patterns.size-lt m e f) (pow_pos 1074))
      (ap (λ (y : ℕ). y * 2 ^ 1074) v.2 ∙ mul_assoc (suc m) (2 ^ v.0) (2 ^ 1074) ∙ ap (λ (y : ℕ). suc m * y) (sym (pow-add 2 v.0 1074)))
      v.1 x refl

pub right : (x : Float) → T (fits binary64 x) → Sqrt x (sqrt_of x)
unfolding sqrt_of
right nan f = refl
right (inf true) f = refl
right (inf false) f = refl
right (fin true zero e) f = refl
right (fin false zero e) f = refl
right (fin true (suc m) e) f = refl
right (fin false (suc m) e) f = positive m e f

-- what `Sqrt` says of r is that r is `sqrt_of x`
pub sqrt-is : (x r : Float) → T (fits binary64 x) → Sqrt x r → r ≡ sqrt_of x
sqrt-is x r f p = unique x r (sqrt_of x) p (right x f)
