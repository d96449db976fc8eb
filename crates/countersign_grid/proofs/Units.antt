-- Which sizes are on the grid: the five cases of `grid_bits`. Assumes nothing.
use mathlib.Core.Path.{◌≡◌, refl, sym, ap, ap₂, subst, ◌∙◌}
use mathlib.Core.Logic.{⊎_elim}
use mathlib.Core.Bool.{Bool, true, false, ◌&&◌}
use Prim.Native.Nat.{ℕ, zero, suc, ◌+◌, ◌-◌, ◌*◌, ◌/◌, ◌%◌, ◌^◌, ◌≤◌, ◌<◌}
use native.Mathlib.Nat.{lt_of_lt_of_le, le_trans, mod-eq_of_lt, mul-pos, mul-lt-mul_of_pos_right, mul-le-mul_left, mul-le-mul, mul-mod_left, zero-mul, add-zero}
use native.Mathlib.Omega.{arith}
use borrow.Author.Tests.{eq-eqb, ne_eqb, le-leb, lt-leb}
use lib.Dec.{leb, eqb}
use lib.Pow.{pow-add, pow_pos, pow-lt, pow_mono, shl_lt, shl_exact, shl-shr, shr-shr, mod-pow-add}
use Rattle.std.proofs.Common.{Option, Some, None}
use Rattle.numbers.specs.Steps.{digits, shift, normal_size}
use Rattle.whole_numbers.proofs.WholeLaws.{le-or-lt}
use Rattle.countersign_grid.specs.Grid.{gridded, grid_units, GridBits}

-- ---- yes and no

pub units-no : (s : ℕ) → gridded s ≡ false → grid_units s ≡ None
unfolding grid_units
units-no s h = rw h

pub units-yes : (s : ℕ) → gridded s ≡ true → grid_units s ≡ Some (s / 2 ^ 1056)
unfolding grid_units
units-yes s h = rw h

and_no : (a : Bool) → (a && false) ≡ false
and_no true = refl
and_no false = refl

-- a size that is not a whole number of 2^-18
off : (s : ℕ) → (s % 2 ^ 1056 ≡ 0 → ⊥) → gridded s ≡ false
unfolding gridded
off s h = let e : eqb (s % 2 ^ 1056) 0 ≡ false = ne_eqb (s % 2 ^ 1056) 0 h in rw e

-- a size between 0 and 2^-18
between : (s : ℕ) → 0 < s → s < 2 ^ 1056 → gridded s ≡ false
between s p h = off s (λ e. let z : s ≡ 0 = sym (mod-eq_of_lt h) ∙ e in omega arith)

-- a size above 1
above : (s : ℕ) → 2 ^ 1074 < s → gridded s ≡ false
unfolding gridded
above s h = let e : leb s (2 ^ 1074) ≡ false = lt-leb s (2 ^ 1074) h in rw e (and_no (eqb (s % 2 ^ 1056) 0))

-- a whole number of 2^-18, at most 1
on : (s : ℕ) → s % 2 ^ 1056 ≡ 0 → s ≤ 2 ^ 1074 → gridded s ≡ true
unfolding gridded
on s e h =
    let a : eqb (s % 2 ^ 1056) 0 ≡ true = eq-eqb (s % 2 ^ 1056) 0 e in
    let b : leb s (2 ^ 1074) ≡ true = le-leb s (2 ^ 1074) h in
    rw (a, b)

-- ---- digits d moved up by j

module _ (d j : ℕ) where
  -- d * 2^j by 2^(k + j), for a k above 0: the remainder and the quotient are d's by 2^k
  by : (k : ℕ) → d * 2 ^ j % 2 ^ (k + j) ≡ d % 2 ^ k * 2 ^ j
  by k =
      mod-pow-add (d * 2 ^ j) k j
      ∙ ap₂ (λ (a b : ℕ). a % 2 ^ k * 2 ^ j + b) (shl-shr d j) (mul-mod_left d (2 ^ j)) ∙ add-zero (d % 2 ^ k * 2 ^ j)

  quotient : (k : ℕ) → d * 2 ^ j / 2 ^ (j + k) ≡ d / 2 ^ k
  quotient k = sym (shr-shr (d * 2 ^ j) j k) ∙ ap (λ (a : ℕ). a / 2 ^ k) (shl-shr d j)

-- ---- the cases of `grid_bits`

abbrev Told : ℕ → Option ℕ → Type 0
Told s r = r ≡ grid_units s

told-no : (s : ℕ) → gridded s ≡ false → Told s None
told-no s h = sym (units-no s h)

pub told-zero : (b : ℕ) → b ≡ 0 → Told b (Some 0)
unfolding gridded grid_units
told-zero b e = rw e refl

pub told-tiny : (b : ℕ) → (b ≡ 0 → ⊥) → b < 2 ^ 52 → Told b None
told-tiny b n h =
    let p : 0 < b = some b n in
    told-no b (between b p (lt_of_lt_of_le h (pow_mono {i = 52} {j = 1056} (omega arith))))
  where
    some : (b : ℕ) → (b ≡ 0 → ⊥) → 0 < b
    some zero n = absurd (n refl)
    some (suc b) n = omega arith

module _ (b : ℕ) (lo : 2 ^ 52 ≤ b) where
  d-lo : 2 ^ 52 ≤ digits b
  d-lo = omega arith

  d-hi : digits b < 2 ^ 53
  d-hi = omega arith

  -- above 1
  pub told-large : 1023 * 2 ^ 52 < b → Told (normal_size b) None
  told-large h = told-no (normal_size b) (above (normal_size b) over)
    where
      one : 2 ^ 52 * 2 ^ 1022 ≡ 2 ^ 1074
      one = sym (pow-add 2 52 1022)

      more : 2 ^ 52 < digits b → 1022 ≤ shift b → 2 ^ 1074 < normal_size b
      more g k = subst (λ (x : ℕ). x < normal_size b) one (lt_of_lt_of_le (mul-lt-mul_of_pos_right g (pow_pos 1022)) (mul-le-mul_left (digits b) (pow_mono k)))

      higher : 1023 ≤ shift b → 2 ^ 1074 < normal_size b
      higher k = lt_of_lt_of_le (pow-lt {i = 1074} {j = 1075} (omega arith)) (subst (λ (x : ℕ). x ≤ normal_size b) (sym (pow-add 2 52 1023)) (mul-le-mul d-lo (pow_mono k)))

      over : 2 ^ 1074 < normal_size b
      over =
          ⊎_elim (λ (k : 1023 ≤ shift b). higher k)
          (λ (k : shift b < 1023). more (omega arith) (omega arith))
          (le-or-lt 1023 (shift b))

  -- below 2^-18
  pub told-low : b / 2 ^ 52 < 1005 → Told (normal_size b) None
  told-low h =
      let k : 53 + shift b ≤ 1056 = omega arith in
      told-no (normal_size b)
      (between (normal_size b) (mul-pos (lt_of_lt_of_le (pow_pos 52) d-lo) (pow_pos (shift b))) (lt_of_lt_of_le (shl_lt 53 (shift b) d-hi) (pow_mono k)))

  module _ (hi : b ≤ 1023 * 2 ^ 52) (h : 1005 ≤ b / 2 ^ 52) where
    -- the power that `grid_bits` divides by
    abbrev up : ℕ
    up = 1057 - b / 2 ^ 52

    whole-l : up + shift b ≡ 1056
    whole-l = omega arith

    whole-r : shift b + up ≡ 1056
    whole-r = omega arith

    most : normal_size b ≤ 2 ^ 1074
    most =
        ⊎_elim
        (λ (k : 1022 ≤ shift b).
        let z : digits b ≡ 2 ^ 52 = omega arith in
        let y : shift b ≡ 1022 = omega arith in
        subst (λ (x : ℕ). x ≤ 2 ^ 1074) (sym (ap₂ (λ (a c : ℕ). a * 2 ^ c) z y)) (subst (λ (x : ℕ). 2 ^ 52 * 2 ^ 1022 ≤ x) (sym (pow-add 2 52 1022)) (mul-le-mul_left (2 ^ 52) (pow_mono {i = 1022} {j = 1022} (omega arith)))))
        (λ (k : shift b < 1022).
        let j : 53 + shift b ≤ 1074 = omega arith in
        let l : normal_size b < 2 ^ (53 + shift b) = shl_lt 53 (shift b) d-hi in
        le_trans (le_of l) (pow_mono j))
        (le-or-lt 1022 (shift b))
      where
        le_of : {x y : ℕ} → x < y → x ≤ y
        le_of g = omega arith

    rest : normal_size b % 2 ^ 1056 ≡ digits b % 2 ^ up * 2 ^ shift b
    rest = ap (λ (x : ℕ). normal_size b % 2 ^ x) (sym whole-l) ∙ by (digits b) (shift b) up

    pub told-off : (p : ℕ) → p ≡ 2 ^ (1057 - b / 2 ^ 52) → (digits b % p ≡ 0 → ⊥) → Told (normal_size b) None
    told-off p e n =
        told-no (normal_size b)
        (off (normal_size b) (λ z. n (none (digits b % p) (2 ^ shift b) (pow_pos (shift b)) (ap (λ (x : ℕ). digits b % x * 2 ^ shift b) e ∙ sym rest ∙ z))))
      where
        none : (x y : ℕ) → 0 < y → x * y ≡ 0 → x ≡ 0
        none zero y p z = refl
        none (suc x) y p z = let q : 0 < suc x * y = mul-pos (omega arith) p in absurd (omega arith)

    pub told-on : (p : ℕ) → p ≡ 2 ^ (1057 - b / 2 ^ 52) → digits b % p ≡ 0 → Told (normal_size b) (Some (digits b / p))
    told-on p e z =
        let g = on (normal_size b) (rest ∙ ap (λ (x : ℕ). digits b % x * 2 ^ shift b) (sym e) ∙ ap (λ (x : ℕ). x * 2 ^ shift b) z ∙ zero-mul (2 ^ shift b)) most in
        ap Some (ap (λ (x : ℕ). digits b / x) e ∙ sym (ap (λ (x : ℕ). normal_size b / 2 ^ x) (sym whole-r) ∙ quotient (digits b) (shift b) up)) ∙ sym (units-yes (normal_size b) g)

-- ---- the ways out of `grid_bits`

-- a power below 2^64 is no zero divisor
pub shifted-pos : (j : ℕ) → j < 64 → 0 < 1 * 2 ^ j % 2 ^ 64
shifted-pos j h = omega (arith, shl_exact {a = 1} 1 j 64 (omega arith) (omega arith), pow_pos j)

pub bits-zero : (b : ℕ) → b ≡ 0 → GridBits b (Some 0)
bits-zero b e = record { small = λ h. told-zero b e; normal = λ l h. absurd (omega arith); past = λ h. absurd (omega arith) }

pub bits-large : (b : ℕ) → 1023 * 2 ^ 52 < b → GridBits b None
bits-large b g = record { small = λ h. absurd (omega arith); normal = λ l h. told-large b l g; past = λ h. refl }

pub bits-low : (b : ℕ) → (b ≡ 0 → ⊥) → b ≤ 1023 * 2 ^ 52 → b / 2 ^ 52 < 1005 → GridBits b None
bits-low b n g k = record { small = told-tiny b n; normal = λ l h. told-low b l k; past = λ h. refl }

module _ (b : ℕ) (g : b ≤ 1023 * 2 ^ 52) (k : 1005 ≤ b / 2 ^ 52) where
  pub power-is : 1 * 2 ^ (1057 - b / 2 ^ 52) % 2 ^ 64 ≡ 2 ^ (1057 - b / 2 ^ 52)
  power-is = shl_exact {a = 1} 1 (1057 - b / 2 ^ 52) 64 (omega arith) (omega arith) ∙ omega arith

  pub bits-off : (p : ℕ) → p ≡ 2 ^ (1057 - b / 2 ^ 52) → (digits b % p ≡ 0 → ⊥) → GridBits b None
  bits-off p e n = record { small = λ h. absurd (omega arith); normal = λ l h. told-off b l g k p e n; past = λ h. refl }

  pub bits-on : (p : ℕ) → p ≡ 2 ^ (1057 - b / 2 ^ 52) → digits b % p ≡ 0 → GridBits b (Some (digits b / p))
  bits-on p e z = record { small = λ h. absurd (omega arith); normal = λ l h. told-on b l g k p e z; past = λ h. absurd (omega arith) }
