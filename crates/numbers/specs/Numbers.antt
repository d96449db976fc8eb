-- The number helpers of 01, for every float: NaN, both zeros and both infinities included. Definitions only.
use Rattle.std.specs.Prelude.{Bool, true, false, not, ◌&&◌, ◌||◌, cond, ℕ, ◌*◌, ◌^◌, leb, Float}
use Rattle.std.specs.declared.cmp.Ordering.{Ordering}
use Rattle.std.specs.declared.cmp.Ordering.TheVariants.{Less, Equal, Greater}
use Rattle.std.specs.Float.{nan, inf, fin, binary64}
use Rattle.std.specs.Float.Ieee.{up, down, neg, lt, eq, is_nan, of_bits}

-- a minus sign, that of -0 too; a NaN has none
unfoldable pub minus_sign : Float → Bool
minus_sign nan = false
minus_sign (inf s) = s
minus_sign (fin s m e) = s

-- the sign cleared, that of -0 too
unfoldable pub magnitude_of : Float → Float
magnitude_of nan = nan
magnitude_of (inf s) = inf false
magnitude_of (fin s m e) = fin false m e

-- 1.0
abbrev pub one_float : Float
one_float = of_bits binary64 0x3ff0_0000_0000_0000

-- +0.0 gives 1, -0.0 gives -1, a NaN gives itself
unfoldable pub sign_of : Float → Float
sign_of nan = nan
sign_of (inf s) = cond s (neg one_float) one_float
sign_of (fin s m e) = cond s (neg one_float) one_float

-- the larger of two, the first where they do not compare
abbrev pub larger_of : Float → Float → Float
larger_of a b = cond (lt a b) b a

-- neither a NaN nor an infinity
unfoldable pub is_finite : Float → Bool
is_finite nan = false
is_finite (inf s) = false
is_finite (fin s m e) = true

-- The total order, downward: NaN, +infinity, .., +0, -0, .., -infinity. The logic's one NaN stands where Rust's positive NaN does.
unfoldable pub total_less : Float → Float → Bool
unfolding minus_sign
total_less x y = cond (is_nan y) (not (is_nan x)) (lt x y || (eq x y && (minus_sign x && not (minus_sign y))))

unfoldable pub total_order : Float → Float → Ordering
unfolding total_less
total_order x y = cond (total_less x y) Less (cond (total_less y x) Greater Equal)

-- the number of each case, as exported
abbrev pub order_number : Ordering → ℕ
order_number Less = 0
order_number Equal = 1
order_number Greater = 2

-- finite, and of magnitude at most 2 ^ k
unfoldable pub allowed_for : ℕ → Float → Bool
allowed_for k nan = false
allowed_for k (inf s) = false
allowed_for k (fin s m e) = leb (m * up e) (2 ^ k * down e)

-- finite, and of magnitude at most 2 ^ 200
unfoldable pub allowed : Float → Bool
unfolding allowed_for
allowed x = allowed_for 200 x
