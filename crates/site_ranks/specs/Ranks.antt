-- Ranks of cuts, as the Rust has them, and the calls' answers. Assumes nothing.
use Rattle.std.specs.Prelude.{◌≡◌, Bool, false, cond, List, [], ◌∷◌, ℕ, zero, suc, ◌+◌, ◌-◌, ◌*◌, ◌^◌, min, max, ltb, Float, length, get_or, Result}
use Rattle.std.specs.Float.Ieee as Ieee
use Rattle.std.specs.Float.{binary64, nan}
use Rattle.std.specs.Float.Ieee.{of_bits}
use Rattle.answers.specs.declared.Refusal.{Refusal}
use Rattle.answers.specs.Paper.{Reply, paper, given, done, refuse, if_done}

-- ---- what a threshold keeps

-- the largest singular value; 0.0 stands for the first of none
unfoldable pub first_or_zero : List Float → Float
first_or_zero [] = of_bits binary64 0
first_or_zero (x ∷ l) = x

-- the values before the first that is not above the threshold, counted
unfoldable pub above_count : Float → List Float → ℕ
above_count t [] = 0
above_count t (x ∷ l) = cond (Ieee.lt t x) (suc (above_count t l)) 0

-- at least one, and then at most the cap
unfoldable pub rank_of : List Float → Float → ℕ → ℕ
unfolding first_or_zero above_count
rank_of values epsilon cap = min (max (above_count (Ieee.mul binary64 epsilon (first_or_zero values)) values) 1) cap

-- 2^-50
abbrev pub resolution : Float
resolution = of_bits binary64 0x3cd0_0000_0000_0000

-- whether the first value that is dropped is above the resolution of the largest
unfoldable pub discards_of : List Float → ℕ → Bool
discards_of values chi = cond (ltb chi (length values)) (Ieee.lt (Ieee.mul binary64 resolution (get_or values 0 nan)) (get_or values chi nan)) false

-- ---- what the bonds allow

-- a call whose answer is `reply` and whose rank, where it is done, is `value`; 0 where it is refused
pub record Ranked (reply : Reply) (value : ℕ) (r : Result ℕ Refusal) : Type 0 where
  pub answer-is : paper r ≡ reply
  pub rank_is : given 0 r ≡ if_done (paper r).0 value 0

-- 1
unfoldable pub bond_sizes : ℕ → ℕ → ℕ → Reply
bond_sizes left mid right = refuse (ltb 4096 left) (1, 0) (refuse (ltb 4096 mid) (1, 0) (refuse (ltb 4096 right) (1, 0) done))

-- the pair bonds give twice the smaller, the middle bond four times itself
unfoldable pub cut_rank_of : ℕ → ℕ → ℕ → ℕ
cut_rank_of left mid right = min (2 * min left right) (4 * mid)

-- 1
unfoldable pub widest_sizes : ℕ → ℕ → ℕ → Reply
widest_sizes left right n =
    refuse (ltb 4096 left) (1, 0) (refuse (ltb 4096 right) (1, 0) (refuse (ltb n 1) (1, 0) (refuse (ltb 16 n) (1, 0) done)))

-- the cut after site k splits into left·2^(k+1) rows against right·2^(n-1-k) columns
unfoldable pub cut_after : ℕ → ℕ → ℕ → ℕ → ℕ
cut_after left right n k = min (left * 2 ^ (k + 1)) (right * 2 ^ (n - 1 - k))

-- the widest of the first k cuts, 0 of none
unfoldable pub widest_to : ℕ → ℕ → ℕ → ℕ → ℕ
unfolding cut_after
widest_to left right n zero = 0
widest_to left right n (suc k) = max (widest_to left right n k) (cut_after left right n k)

unfoldable pub widest_of : ℕ → ℕ → ℕ → ℕ
unfolding widest_to
widest_of left right n = widest_to left right n (n - 1)
