-- `grid_of` by the bits: what the bits without the sign say of a float, with either sign. Assumes nothing.
use mathlib.Core.Path.{◌≡◌, refl, sym, ap, ◌∙◌, subst}
use mathlib.Core.Bool.{Bool, true, false, cond, true≢false}
use mathlib.Core.Logic.{⊎_elim}
use Prim.Native.Nat.{ℕ, ◌+◌, ◌*◌, ◌/◌, ◌%◌, ◌^◌, ◌≤◌, ◌<◌}
use native.Mathlib.Omega.{arith}
use lib.IntN.{ℤ}
use lib.Dec.{T, leb, eqb}
use lib.Ieee.{Float, nan, inf, fin, binary64, fits, of_fields, of_bits, to_bits}
use lib.Ieee.Bits.{of_bits-to_bits}
use Rattle.std.proofs.Common.{Option, None}
use Rattle.std.specs.Option.{option_map}
use Rattle.numbers.specs.Numbers.{is_finite}
use Rattle.numbers.specs.Root.{units_of}
use Rattle.numbers.specs.Steps.{normal_size}
use Rattle.numbers.proofs.Patterns.{normal-size, small_size}
use Rattle.signs.proofs.Zeros.{either-sign}
use Rattle.numbers.proofs.Cases.{minus-bits, plus-bits}
use Rattle.whole_numbers.proofs.WholeLaws.{le-or-lt}
use Rattle.countersign_grid.specs.Grid.{grid_units, under_of, over_of, grid_of, GridBits}

-- ---- the sign

size-sign : (s t : Bool) (m : ℕ) (e : ℤ) → units_of (fin s m e) ≡ units_of (fin t m e)
unfolding units_of
size-sign s t m e = refl

from_bits : (m : ℕ) (e : ℤ) → T (fits binary64 (fin false m e)) → units_of (fin false m e) ≡ units_of (of_bits binary64 (to_bits binary64 (fin false m e)))
from_bits m e f = ap units_of (sym (of_bits-to_bits binary64 (fin false m e) f))

of_bits_is : (b : ℕ) → of_bits binary64 b ≡ of_fields binary64 (leb (2 ^ 63) b) (b % 2 ^ 63 / 2 ^ 52) (b % 2 ^ 52)
unfolding of_bits
of_bits_is b = refl

-- bits at the infinity's and above are no finite float's
at-past : (s : Bool) (t : ℕ) → of_fields binary64 s 2047 t ≡ cond (eqb t 0) (inf s) nan
unfolding of_fields
at-past s t = refl

not_finite : (c s : Bool) → is_finite (cond c (inf s) nan) ≡ false
unfolding is_finite
not_finite true s = refl
not_finite false s = refl

past : (b : ℕ) → 2047 * 2 ^ 52 ≤ b → b < 2 ^ 63 → is_finite (of_bits binary64 b) ≡ false
past b h k =
    let f : b % 2 ^ 63 / 2 ^ 52 ≡ 2047 = omega arith in
    ap is_finite (of_bits_is b ∙ ap (λ (x : ℕ). of_fields binary64 (leb (2 ^ 63) b) x (b % 2 ^ 52)) f ∙ at-past (leb (2 ^ 63) b) (b % 2 ^ 52))
    ∙ not_finite (eqb (b % 2 ^ 52) 0) (leb (2 ^ 63) b)

is-finite : (m : ℕ) (e : ℤ) → is_finite (fin false m e) ≡ true
unfolding is_finite
is-finite m e = refl

finite-bits : (m : ℕ) (e : ℤ) → T (fits binary64 (fin false m e)) → to_bits binary64 (fin false m e) < 2047 * 2 ^ 52
finite-bits m e f =
    ⊎_elim
    (λ (h : 2047 * 2 ^ 52 ≤ to_bits binary64 (fin false m e)).
    absurd (true≢false (sym (is-finite m e) ∙ ap is_finite (sym (of_bits-to_bits binary64 (fin false m e) f)) ∙ past (to_bits binary64 (fin false m e)) h (plus-bits m e f))))
    (λ (h : to_bits binary64 (fin false m e) < 2047 * 2 ^ 52). h)
    (le-or-lt (2047 * 2 ^ 52) (to_bits binary64 (fin false m e)))

-- ---- what `grid_bits` says of a float's bits

grid-fin : (m : ℕ) (e : ℤ) → T (fits binary64 (fin false m e)) → (r : Option ℕ) → GridBits (to_bits binary64 (fin false m e)) r
    → r ≡ grid_units (units_of (fin false m e))
grid-fin m e f r g =
    let b = to_bits binary64 (fin false m e) in
    ⊎_elim
    (λ (h : 2 ^ 52 ≤ b).
    let z : units_of (fin false m e) ≡ normal_size b = from_bits m e f ∙ normal-size b h (finite-bits m e f) in
    rw z (g.normal h (finite-bits m e f)))
    (λ (h : b < 2 ^ 52). let z : units_of (fin false m e) ≡ b = from_bits m e f ∙ small_size b h in rw z (g.small h))
    (le-or-lt (2 ^ 52) b)

inf_bits : (s : Bool) → to_bits binary64 (inf s) ≡ cond s (2 ^ 63) 0 + 2047 * 2 ^ 52
unfolding to_bits
inf_bits true = refl
inf_bits false = refl

nan-bits : to_bits binary64 nan ≡ 2047 * 2 ^ 52 + 2 ^ 51
unfolding to_bits
nan-bits = refl

-- b is the float's bits; no minus sign, and a minus sign
pub grid-plus : (x : Float) (b : ℕ) (r : Option ℕ) → T (fits binary64 x) → b ≡ to_bits binary64 x → GridBits (b % 2 ^ 63) r → b < 2 ^ 63
    → option_map over_of r ≡ grid_of x
unfolding grid_of
grid-plus nan b r f e g h = ap (option_map over_of) (g.past (omega (arith, e, nan-bits)))
grid-plus (inf true) b r f e g h = absurd (omega (arith, e, inf_bits true))
grid-plus (inf false) b r f e g h = ap (option_map over_of) (g.past (omega (arith, e, inf_bits false)))
grid-plus (fin true m d) b r f e g h = absurd (omega (arith, e, minus-bits m d))
grid-plus (fin false m d) b r f e g h =
    let k : b % 2 ^ 63 ≡ to_bits binary64 (fin false m d) = omega (arith, e, h) in
    ap (option_map over_of) (grid-fin m d f r (subst (λ (y : ℕ). GridBits y r) k g))

pub grid-minus : (x : Float) (b : ℕ) (r : Option ℕ) → T (fits binary64 x) → b ≡ to_bits binary64 x → GridBits (b % 2 ^ 63) r → 2 ^ 63 ≤ b
    → option_map under_of r ≡ grid_of x
unfolding grid_of
grid-minus nan b r f e g h = absurd (omega (arith, e, nan-bits))
grid-minus (inf false) b r f e g h = absurd (omega (arith, e, inf_bits false))
grid-minus (inf true) b r f e g h = ap (option_map under_of) (g.past (omega (arith, e, inf_bits true)))
grid-minus (fin false m d) b r f e g h = absurd (omega (arith, e, plus-bits m d f))
grid-minus (fin true m d) b r f e g h =
    let p = either-sign true false m d f in
    let k : b % 2 ^ 63 ≡ to_bits binary64 (fin false m d) = omega (arith, e, minus-bits m d, plus-bits m d p) in
    ap (option_map under_of) (grid-fin m d p r (subst (λ (y : ℕ). GridBits y r) k g) ∙ ap grid_units (size-sign false true m d))

pub grid-none : (x : Float) (b : ℕ) (r : Option ℕ) → T (fits binary64 x) → b ≡ to_bits binary64 x → GridBits (b % 2 ^ 63) r → r ≡ None → None ≡ grid_of x
grid-none x b r f e g n =
    ⊎_elim
    (λ (h : 2 ^ 63 ≤ b). sym (ap (option_map under_of) n) ∙ grid-minus x b r f e g h)
    (λ (h : b < 2 ^ 63). sym (ap (option_map over_of) n) ∙ grid-plus x b r f e g h)
    (le-or-lt (2 ^ 63) b)
